-- Escapes that are read by value are what document 01 gives them. Assumes nothing.
use Prim.Native.Nat.{ℕ, ◌+◌, ◌*◌, ◌/◌, ◌≤◌, ◌<◌}
use mathlib.Core.Path.{◌≡◌, refl, sym, ap, ap₂, ◌∙◌, subst}
use mathlib.Core.List.{List}
use mathlib.Core.Bool.{true, false, not}
use native.Mathlib.Omega.{arith}
use lib.ListN.{get_or, length}
use borrow.Author.Tests.{le-leb, lt-leb}
use Rattle.std.specs.Prelude.{Option, Some, None}
use Rattle.std.specs.Option.{is_some, unwrap_or}
use Rattle.classes.specs.Digits.{hex_value, is_hex_digit}
use Rattle.escapes.proofs.Escapes.{byte_turn_law, char_turn_law, close_yes, digits_close, digits_more, hex_small, hex_yes, second_yes, unicode_open}
use Rattle.escapes.specs.Escapes.{byte_turn, char_turn, close_of, digits_of, hex_of, low_only, shift_in, unicode_of}
use Rattle.escapes.specs.declared.Escape.{Escape}
use Rattle.escapes.specs.declared.Escape.TheVariants.{Item}
use Rattle.items.proofs.Begins.{item_byte, item_char}
use Rattle.items.specs.Items.{is_bytes, is_single, is_template, item_of}
use Rattle.items.specs.declared.Form.{Form}
use Rattle.laws.proofs.Cases.{both_false, never, split_le}
use Rattle.runs.proofs.Shorts.{escaped_inv}
use Rattle.runs.specs.Runs.{begins_of, escaped_at}
use Rattle.text.proofs.Decode.{Step, step_ascii}
use Rattle.text.specs.Utf8.{rest}
use Rattle.unescape.specs.Longs.{Closed, Packed}

hex_ascii : (v : ℕ) → is_hex_digit v ≡ true → v ≤ 0x7f
hex_ascii v h =
    split_le v 0x7f (λ l. l)
    (λ l. never (let z : is_hex_digit v ≡ false = simp (lt-leb v 0x39 (omega arith), lt-leb v 0x66 (omega arith), lt-leb v 0x46 (omega arith), both_false) in cc))

-- 0 says nothing
pub nothing : (p : ℕ) (e : Escape) → Packed p e 0
nothing p e h = absurd (omega arith)

-- an ASCII byte is a scalar: with its places as the code writes them
ascii_at : (s : List ℕ) (i n v : ℕ) → v ≡ get_or s i 0 → i < length s → v ≤ 0x7f → n ≡ i + 1 → Step s i v n
ascii_at s i n v q h l e = subst (λ (k : ℕ). Step s i v k) (sym e) (subst (λ (x : ℕ). Step s i x (i + 1)) (sym q) (step_ascii s i h (omega arith)))

module _ (s : List ℕ) (at : ℕ) where
  pub hex_packed : (a b d e r : ℕ) → a ≡ get_or s (at + 2) 0 → b ≡ get_or s (at + 3) 0 → at + 3 < length s → is_hex_digit a ≡ true → is_hex_digit b ≡ true → d ≡ hex_value a → e ≡ hex_value b
      → r ≡ (d * 16 + e) * 16 + 4 → Packed at (hex_of (rest s (at + 2)) (at + 2)) r
  hex_packed a b d e r qa qb h ha hb ea eb q z =
      ap₂ Item (omega arith) (omega arith)
      ∙ second_yes s (at + 3) b (at + 4) (ascii_at s (at + 3) (at + 4) b qb h (hex_ascii b hb) (omega arith)) d hb eb
      ∙ hex_yes s (at + 2) a (at + 3) (ascii_at s (at + 2) (at + 3) a qa (omega arith) (hex_ascii a ha) (omega arith)) ha ea

  -- the digits from the place at + i on give what all of them give
  pub record Digits (left i : ℕ) (x : Option ℕ) : Type 0 where
    pub same : digits_of (is_some x) (unwrap_or x 0) (rest s (at + i)) (at + i) ≡ unicode_of (rest s (at + 2)) (at + 2)
    pub few : unwrap_or x 0 ≤ 0xffffff
    pub inside : at + left ≡ length s

  pub digits_first : (left : ℕ) → at + left ≡ length s → 3 ≤ left → get_or s (at + 2) 0 ≡ 0x7b → Digits left 3 None
  digits_first left e h k =
      let t = ascii_at s (at + 2) (at + 3) 0x7b (sym k) (omega arith) (omega arith) (omega arith) in
      record { same = unicode_open s (at + 2) 0x7b (at + 3) t refl; few = omega arith; inside = e }

  module _ (left i : ℕ) (x : Option ℕ) (g : Digits left i x) (l : i < left) (v : ℕ) (q : v ≡ get_or s (at + i) 0) where
    digit_step : v ≤ 0x7f → Step s (at + i) v (at + (i + 1))
    digit_step h = ascii_at s (at + i) (at + (i + 1)) v q (omega (arith, g.inside)) h (omega arith)

    pub digits_next : (v ≡ 0x7d → ⊥) → is_hex_digit v ≡ true → unwrap_or x 0 ≤ 0xfffff → (d y : ℕ) → d ≡ hex_value v → y ≡ unwrap_or x 0 * 16 + d → Digits left (i + 1) (Some y)
    digits_next h k few d y e u =
        let t = digit_step (hex_ascii v k) in
        let w : y ≡ shift_in (unwrap_or x 0) v = omega arith in
        record { same = digits_more s (at + i) v (at + (i + 1)) t (is_some x) (unwrap_or x 0) h k w ∙ g.same; few = omega (arith, hex_small v); inside = g.inside }

    pub digits_packed : (r : ℕ) → v ≡ 0x7d → Closed x i r → Packed at (unicode_of (rest s (at + 2)) (at + 2)) r
    digits_packed r h c z =
        let o = c z in
        let t = digit_step (omega arith) in
        ap (Item (r / 16)) (omega (arith, o.place)) ∙ close_yes true (r / 16) (at + (i + 1)) refl o.scalar
        ∙ ap (λ (y : Option ℕ). close_of (is_some y) (unwrap_or y 0) (at + (i + 1))) (sym o.digits)
        ∙ digits_close s (at + i) v (at + (i + 1)) t (is_some x) (unwrap_or x 0) h ∙ g.same

-- what stands after a backslash at a place
module _ (form : Form) (s : List ℕ) (at v : ℕ) (q : v ≡ escaped_at s at) (l : v ≤ 0x7f) (h : v ≡ 0 → ⊥) where
  found : (get_or s at 0 ≡ 0x5c) × (v ≡ get_or s (at + 1) 0) × (at + 1 < length s)
  found = escaped_inv s at v q h

  first_step : Step s at 0x5c (at + 1)
  first_step = ascii_at s at (at + 1) 0x5c (sym found.0) (omega (arith, found.2)) (omega arith) refl

  next_step : Step s (at + 1) v (at + 2)
  next_step = ascii_at s (at + 1) (at + 2) v found.1 found.2 l (omega arith)

  begins : item_of form 0x5c (rest s (at + 1)) (at + 1) ≡ begins_of form (rest s at) at
  unfolding begins_of
  begins = sym (rw first_step.here (ap (item_of form 0x5c (rest s (at + 1))) (sym first_step.next)))

  pub begins_byte : is_bytes form ≡ true → byte_turn (not (is_single form)) v (rest s (at + 2)) (at + 2) ≡ begins_of form (rest s at) at
  begins_byte b = byte_turn_law s (at + 1) v (at + 2) next_step (not (is_single form)) ∙ item_byte form 0x5c (rest s (at + 1)) (at + 1) b refl refl ∙ begins

  pub begins_char : is_bytes form ≡ false → char_turn (is_template form) (not (is_single form)) v (rest s (at + 2)) (at + 2) ≡ begins_of form (rest s at) at
  begins_char b = char_turn_law s (at + 1) v (at + 2) next_step (is_template form) (not (is_single form)) ∙ item_char form 0x5c (rest s (at + 1)) (at + 1) b refl refl refl ∙ begins

module _ (form : Form) (s : List ℕ) (at v r : ℕ) (q : v ≡ escaped_at s at) where
  pub byte_hex : is_bytes form ≡ true → v ≡ 0x78 → Packed at (hex_of (rest s (at + 2)) (at + 2)) r → Packed at (begins_of form (rest s at) at) r
  unfolding byte_turn
  byte_hex b e p z =
      p z ∙ ap (λ (k : ℕ). byte_turn (not (is_single form)) k (rest s (at + 2)) (at + 2)) (sym e) ∙ begins_byte form s at v q (omega arith) (λ k. omega arith) b

  pub char_hex : is_bytes form ≡ false → v ≡ 0x78 → Packed at (hex_of (rest s (at + 2)) (at + 2)) r → r / 16 ≤ 0x7f → Packed at (begins_of form (rest s at) at) r
  unfolding char_turn
  char_hex b e p l z =
      sym (rw (le-leb (r / 16) 0x7f l)) ∙ ap low_only (p z) ∙ ap (λ (k : ℕ). char_turn (is_template form) (not (is_single form)) k (rest s (at + 2)) (at + 2)) (sym e) ∙ begins_char form s at v q (omega arith) (λ k. omega arith) b

  pub char_unicode : is_bytes form ≡ false → v ≡ 0x75 → Packed at (unicode_of (rest s (at + 2)) (at + 2)) r → Packed at (begins_of form (rest s at) at) r
  unfolding char_turn
  char_unicode b e p z =
      p z ∙ ap (λ (k : ℕ). char_turn (is_template form) (not (is_single form)) k (rest s (at + 2)) (at + 2)) (sym e) ∙ begins_char form s at v q (omega arith) (λ k. omega arith) b
