-- The lines that the lister prints, in bytes.
use Rattle.std.specs.Prelude.{ℕ, List, ◌++◌, codes, decimal}

-- `KIND START END`, with blanks between them and a line feed
abbrev pub token_line : ℕ → ℕ → ℕ → List ℕ
token_line number start end = decimal number ++ codes " " ++ decimal start ++ codes " " ++ decimal end ++ codes "\n"

abbrev pub refused_line : ℕ → ℕ → ℕ → List ℕ
refused_line number start end = codes "refused " ++ token_line number start end

abbrev pub end_line : ℕ → List ℕ
end_line count = codes "end " ++ decimal count ++ codes "\n"
