-- The call `outline`, by what it leaves in its buffer: a source that passes the tests, and a buffer that is as long or longer. Assumes nothing.
use Rattle.std.specs.Prelude.{Ok}
use Prim.Native.Nat.{ℕ, ◌+◌, ◌-◌, ◌≤◌, ◌<◌}
use mathlib.Core.Path.{◌≡◌, sym, ap, ◌∙◌, subst}
use mathlib.Core.List.{List, ◌++◌}
use native.Mathlib.Omega.{arith}
use lib.Seq.{drop_at, get_or-drop, get_or-take, length-sets, sets, sets-eq, take_at}
use lib.ListN.{drop, get_or, length, take}
use Rattle.demands.proofs.Lists.{outline_again, outline_ends, outline_lists, outline_stores, written_sound}
use Rattle.demands.proofs.Outlines.{outline_bytes, outline_length}
use Rattle.demands.specs.Left.{outline_left}
use Rattle.demands.specs.Plain.{plain_words}
use Rattle.families.specs.Tokens.{tokens_at}
use Rattle.laws.specs.Bools.{pick}
use Rattle.listing.specs.Listing.{list_of, stored_of}
use Rattle.outline.specs.Outline.{inside_at, outline_of, outline_written, outlined}
use Rattle.readers.specs.Rules.{rules_of}
use Rattle.readers.specs.declared.reading.Reading.{Reading}
use Rattle.source_test.specs.Source.{source_test}
use Rattle.text.specs.Characters.{letter_x}

module _ (g : Reading) (s out : List ℕ) (h : source_test s ≡ Ok tt) (l : length s ≤ length out) where
  whole : length (outlined (rules_of g) s) ≡ length s
  whole = outline_length (rules_of g) s

  left_is : outline_left g s out ≡ outlined (rules_of g) s ++ drop (length s) out
  left_is =
      let e : 0 + length (outlined (rules_of g) s) ≡ length s = omega (arith, whole) in
      ap (sets out 0) (written_sound g s h (length out) l) ∙ sets-eq (outlined (rules_of g) s) out 0 (omega (arith, whole)) ∙ ap (λ (k : ℕ). outlined (rules_of g) s ++ drop k out) e

  pub left_length : length (outline_left g s out) ≡ length out
  left_length = length-sets out 0 (outline_written g s (length out))

  pub left_front : take (length s) (outline_left g s out) ≡ outlined (rules_of g) s
  left_front = ap (take (length s)) left_is ∙ take_at (outlined (rules_of g) s) (drop (length s) out) (length s) whole

  pub left_inside : (i : ℕ) → i < length s → get_or (outline_left g s out) i 0 ≡ pick (inside_at (tokens_at (rules_of g) s 0) i) letter_x (get_or s i 0)
  left_inside i k = sym (get_or-take (length s) (outline_left g s out) i 0 k) ∙ ap (λ (w : List ℕ). get_or w i 0) left_front ∙ outline_bytes (rules_of g) s i k

  pub left_past : (i : ℕ) → length s ≤ i → get_or (outline_left g s out) i 0 ≡ get_or out i 0
  left_past i k =
      let e : length s + (i - length s) ≡ i = omega arith in
      let rest : drop (length s) (outline_left g s out) ≡ drop (length s) out = ap (drop (length s)) left_is ∙ drop_at (outlined (rules_of g) s) (drop (length s) out) (length s) whole in
      subst (λ (x : ℕ). get_or (outline_left g s out) x 0 ≡ get_or out x 0) e
      (sym (get_or-drop (length s) (outline_left g s out) (i - length s) 0) ∙ ap (λ (w : List ℕ). get_or w (i - length s) 0) rest ∙ get_or-drop (length s) out (i - length s) 0)

  -- the bytes left in the source's place, outlined again into any buffer with room, leave there what the source leaves
  pub left_again : (buf : List ℕ) → length s ≤ length buf → outline_left g (take (length s) (outline_left g s out)) buf ≡ outline_left g s buf
  left_again buf k =
      ap (sets buf 0)
      (ap (λ (t : List ℕ). outline_written g t (length buf)) (left_front ∙ sym (written_sound g s h (length buf) k)) ∙ outline_again g s h (length buf) k)

  pub left_answer : (room : ℕ) → length s ≤ room → outline_of g (take (length s) (outline_left g s out)) room ≡ outline_of g s room
  left_answer room k = ap (λ (t : List ℕ). outline_of g t room) (left_front ∙ sym (written_sound g s h room k)) ∙ outline_ends g s h room k

  pub left_lists : (room : ℕ) → (list_of g (take (length s) (outline_left g s out)) room ≡ list_of g s room) × (stored_of g (take (length s) (outline_left g s out)) room ≡ plain_words (stored_of g s room))
  left_lists room = (ap (λ (t : List ℕ). list_of g t room) left_front ∙ outline_lists g s h room, ap (λ (t : List ℕ). stored_of g t room) left_front ∙ outline_stores g s h room)
