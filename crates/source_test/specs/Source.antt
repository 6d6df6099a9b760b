-- Document 01, "Refusal numbers and places": the tests 1, 2 and 4, which come before reading.
use Rattle.std.specs.Prelude.{Err, Ok, ℕ, ◌+◌, List, [], ◌∷◌, Bool, not, leb, ltb, eqb, get_or, length}
use Rattle.token.specs.declared.reason.Reason.TheVariants.{IllFormed, NoPlace, TooLong}
use Rattle.laws.specs.Bools.{both, either, pick}
use Rattle.text.specs.Utf8.{after, rest, tail, width}
use Rattle.token.specs.Reads.{point_refusal, Tested}
use Rattle.token.specs.declared.read.Refusal.{Refusal}

-- the place of the first ill-formed sequence: where the longest well-formed prefix ends
unfoldable pub sound_to : List ℕ → ℕ
sound_to s = after (rest s 0) 0

-- at is the place of one of the scalars cs, the first of which stands at p, or of their end
unfoldable pub is_place : List ℕ → ℕ → ℕ → Bool
is_place [] p at = eqb p at
is_place (v ∷ cs) p at = either (eqb p at) (is_place cs (p + width v) at)

-- 1, 2 and 4, each a point: no other definition has these numbers
abbrev pub too_long : Tested
too_long = Err (point_refusal TooLong 0)

abbrev pub ill_formed : ℕ → Tested
ill_formed p = Err (point_refusal IllFormed p)

abbrev pub no_place : ℕ → Tested
no_place p = Err (point_refusal NoPlace p)

-- what a call answers after a test: what it reads, or what it makes of the refusal
abbrev pub after_test : {A : Type 0} → Tested → A → (Refusal → A) → A
after_test (Ok u) a f = a
after_test (Err r) a f = f r

-- 1 over 65,536 bytes; 2 ill-formed UTF-8, at the first bad sequence
unfoldable pub source_test : List ℕ → Tested
source_test s = pick (ltb 65536 (length s)) too_long (pick (eqb (sound_to s) (length s)) (Ok tt) (ill_formed (sound_to s)))

-- these, and then 4: a position past the end or inside a scalar
unfoldable pub position_test : List ℕ → ℕ → Tested
position_test s at = after_test (source_test s) (pick (is_place (rest s 0) 0 at) (Ok tt) (no_place at)) Err

-- by bytes: within the list or at its end, and no tail byte stands there
unfoldable pub boundary : List ℕ → ℕ → Bool
boundary s at = both (leb at (length s)) (not (tail (get_or s at 0)))
