-- What a call promises, by the reading that its number names. Assumes nothing.
use Rattle.std.specs.Prelude.{None, Option, Some}
use Prim.Native.Nat.{ℕ}
use mathlib.Core.Path.{◌≡◌, sym, ap, subst}
use mathlib.Core.List.{List}
use lib.Seq.{sets}
use borrow.Author.Tests.{ne_eqb}
use Rattle.answers.proofs.Promises.{Left-by, Told-by}
use Rattle.answers.specs.Readings.{reading_of, tells_by, writes_by}
use Rattle.answers.specs.Told.{told_as}
use Rattle.answers.specs.declared.Told.{Told}
use Rattle.readers.specs.Rules.{first_close, rune}
use Rattle.readers.specs.declared.reading.Reading.{Reading}

-- a number other than the two
pub reading_none : (n : ℕ) → (n ≡ 1 → ⊥) → (n ≡ 2 → ⊥) → None ≡ reading_of n
unfolding reading_of
reading_none n a b = rw (ne_eqb n 1 a, ne_eqb n 2 b)

pub reading_one : (n : ℕ) → n ≡ 1 → Some rune ≡ reading_of n
unfolding reading_of
reading_one n e = sym (ap reading_of e)

pub reading_two : (n : ℕ) → n ≡ 2 → Some first_close ≡ reading_of n
unfolding reading_of
reading_two n e = sym (ap reading_of e)

module _ (n : ℕ) (f : Reading → Told) (r : ℕ) (v : List ℕ) where
  pub told_none : None ≡ reading_of n → Told-by (told_as 6 0 0 0 0 0) r v → Told-by (tells_by (reading_of n) f) r v
  told_none e h = subst (λ (x : Option Reading). Told-by (tells_by x f) r v) e h

  pub told_one : (g : Reading) → Some g ≡ reading_of n → Told-by (f g) r v → Told-by (tells_by (reading_of n) f) r v
  told_one g e h = subst (λ (x : Option Reading). Told-by (tells_by x f) r v) e h

  module _ (t : Reading → List ℕ) (o w : List ℕ) where
    pub left_none : None ≡ reading_of n → Told-by (told_as 6 0 0 0 0 0) r v → w ≡ o → Left-by (tells_by (reading_of n) f) (sets o 0 (writes_by (reading_of n) t)) r w v
    left_none e h s = subst (λ (x : Option Reading). Left-by (tells_by x f) (sets o 0 (writes_by x t)) r w v) e (h.0, s, h.1)

    pub left_one : (g : Reading) → Some g ≡ reading_of n → Told-by (f g) r v → w ≡ sets o 0 (t g) → Left-by (tells_by (reading_of n) f) (sets o 0 (writes_by (reading_of n) t)) r w v
    left_one g e h s = subst (λ (x : Option Reading). Left-by (tells_by x f) (sets o 0 (writes_by x t)) r w v) e (h.0, s, h.1)
