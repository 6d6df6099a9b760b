-- What a caller in another language is told of a call of the lookahead.
use Rattle.std.specs.Prelude.{ℕ, List, [], ◌∷◌, Result, Ok, Err}
use Rattle.looks.specs.Answer.{number_of}
use Rattle.looks.specs.declared.look.Done.{Done}
use Rattle.looks.specs.declared.look.Stop.{Stop}

-- the result: the number of a refusal, 0 where there is none
abbrev pub number_by : {S : Type 0} → (S → ℕ) → Result Done S → ℕ
number_by number (Ok done) = 0
number_by number (Err stop) = number stop

abbrev pub number_told : Result Done Stop → ℕ
number_told looked = number_by number_of looked

-- the record: value, count, start, end, reached; a refusal has no place
abbrev pub words_told : {S : Type 0} → Result Done S → List ℕ
words_told (Ok done) = done.value ∷ done.count ∷ done.start ∷ done.end ∷ 0 ∷ []
words_told (Err stop) = 0 ∷ 0 ∷ 0 ∷ 0 ∷ 0 ∷ []
