-- What a body's call promises, by the form that its number names. Assumes nothing.
use Rattle.std.specs.Prelude.{None, Option, Some}
use Prim.Native.Nat.{ℕ}
use mathlib.Core.Path.{◌≡◌, subst}
use mathlib.Core.List.{List}
use lib.Seq.{sets}
use lib.ListN.{length}
use Rattle.answers.specs.Told.{form_of, formed, of_counted, told_as}
use Rattle.items.specs.declared.Form.{Form}
use Rattle.laws.specs.Bools.{same}
use Rattle.unescape.specs.Bodies.{unescape_of}

module _ (r n : ℕ) (s o w l : List ℕ) where
  -- what a body's call promises, at the form that its number names
  abbrev Formed : Option Form → Type 0
  Formed m =
      (r ≡ (of_counted (formed m s (length o)).answer).number)
      × (w ≡ sets o 0 (formed m s (length o)).bytes)
      × (l ≡ (of_counted (formed m s (length o)).answer).words)

  pub by_none : w ≡ o → None ≡ form_of n → (r ≡ (told_as 5 0 0 0 0 0).number) × (l ≡ (told_as 5 0 0 0 0 0).words) → Formed (form_of n)
  unfolding formed
  by_none same e h = subst Formed e (h.0, same, h.1)

  pub by_form : (f : Form) → Some f ≡ form_of n → (r ≡ (of_counted (unescape_of f s (length o)).answer).number) × (l ≡ (of_counted (unescape_of f s (length o)).answer).words)
      → w ≡ sets o 0 (unescape_of f s (length o)).bytes → Formed (form_of n)
  unfolding formed
  by_form f e h k = subst Formed e (h.0, k, h.1)
