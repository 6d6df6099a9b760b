-- Where the code of the comment reader begins to look for a close. It serves the proofs and is no rule of document 01.
use Rattle.std.specs.Prelude.{ℕ, ◌+◌, List, [], ◌∷◌}
use Rattle.readers.specs.Scan.{Stride}
use Rattle.readers.specs.declared.reading.Comments.{Comments}
use Rattle.readers.specs.declared.reading.Comments.TheVariants.{Crate, First}
use Rattle.text.specs.Utf8.{rest, width}

-- the place after the first of the scalars, and the place after those that a comment passes over
abbrev pub pass_one : Stride → List ℕ → ℕ → ℕ
pass_one w [] p = p
pass_one w (v ∷ cs) p = p + w v

abbrev pub untested : Comments → List ℕ → ℕ → ℕ
untested Crate s at = let q = pass_one width (rest s at) at in pass_one width (rest s q) q
untested First s at = at
