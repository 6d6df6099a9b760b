-- No rule of document 01, for theorems: what the laws of the stored list suppose of its numbers.
use Rattle.std.specs.Prelude.{ℕ, ◌<◌, List, get_or}

-- each number of the list is below b; past its end 0 is meant
abbrev pub Below : ℕ → List ℕ → Type 0
Below b s = (i : ℕ) → get_or s i 0 < b
