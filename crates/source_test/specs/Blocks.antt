-- What the code of the tests says of a block of bytes. It serves the proofs and is no rule of document 01.
use Rattle.std.specs.Prelude.{ℕ, suc, Option, Some, None, ◌+◌, ◌≤◌, ◌<◌, ◌≡◌, List, [], get_or, length}
use Rattle.text.specs.Utf8.{Lead, after, bad, rest, seq}

-- how many bytes a sequence has
abbrev pub len_of : Lead → Option ℕ
len_of (seq v e) = Some (suc e)
len_of bad = None

-- none of the n bytes from a place on is more than m
abbrev pub AtMost : List ℕ → ℕ → ℕ → ℕ → Type 0
AtMost s at n m = (i : ℕ) → i < n → get_or s (at + i) 0 ≤ m

-- from at to r only whole scalars were passed, and some unless there are none
pub record Passed (s : List ℕ) (at r : ℕ) : Type 0 where
  pub on : at ≤ r
  pub inside : r ≤ length s
  pub same : after (rest s r) r ≡ after (rest s at) at
  pub some : r ≡ at → rest s at ≡ []
