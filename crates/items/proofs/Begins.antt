-- What the code's tests say of the scalar that begins an item. Assumes nothing.
use Rattle.token.specs.declared.reason.Reason.TheVariants.{NotAscii}
use Prim.Native.Nat.{ℕ, ◌≤◌, ◌<◌}
use mathlib.Core.Path.{◌≡◌, ap, ap₂}
use mathlib.Core.List.{List}
use mathlib.Core.Bool.{Bool, true, false, not}
use borrow.Author.Tests.{eq-eqb, le-ltb, lt-ltb, ne_eqb}
use Rattle.escapes.specs.Escapes.{byte_escape, char_escape}
use Rattle.escapes.specs.declared.Escape.TheVariants.{Bad, Item}
use Rattle.items.specs.Items.{is_bytes, is_single, is_template, item_of}
use Rattle.items.specs.declared.Form.{Form}

module _ (form : Form) (v : ℕ) (cs : List ℕ) (p : ℕ) where
  pub item_byte : is_bytes form ≡ true → v ≡ 0x5c → {b : Bool} → b ≡ is_single form → byte_escape (not b) cs p ≡ item_of form v cs p
  unfolding item_of
  item_byte k h e = rw (eq-eqb v 0x5c h, k) (ap (λ (x : Bool). byte_escape (not x) cs p) e)

  pub item_char : is_bytes form ≡ false → v ≡ 0x5c → {m b : Bool} → m ≡ is_template form → b ≡ is_single form → char_escape m (not b) cs p ≡ item_of form v cs p
  unfolding item_of
  item_char k h d e = rw (eq-eqb v 0x5c h, k) (ap₂ (λ (x y : Bool). char_escape x (not y) cs p) d e)

  module _ (h : v ≡ 0x5c → ⊥) where
    pub item_high : is_bytes form ≡ true → 0x7f < v → Bad NotAscii p ≡ item_of form v cs p
    unfolding item_of
    item_high k l = rw (ne_eqb v 0x5c h, k, lt-ltb 0x7f v l)

    pub item_low : is_bytes form ≡ true → v ≤ 0x7f → Item v p ≡ item_of form v cs p
    unfolding item_of
    item_low k l = rw (ne_eqb v 0x5c h, k, le-ltb 0x7f v l)

    pub item_plain : is_bytes form ≡ false → Item v p ≡ item_of form v cs p
    unfolding item_of
    item_plain k = rw (ne_eqb v 0x5c h, k)
