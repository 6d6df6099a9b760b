-- What the code's tests say of each escape, at a place of a source, in the order of the definitions. Assumes nothing.
use Rattle.token.specs.declared.reason.Reason.TheVariants.{BadByteEscape, BadEscapeSequence, BadUnicodeEscape}
use Rattle.std.specs.Prelude.{Some, None, Ok, Err}
use Prim.Native.Nat.{ℕ, ◌+◌, ◌*◌, ◌<◌, ◌≤◌}
use mathlib.Core.Path.{◌≡◌, refl, sym, ap, ◌∙◌, subst}
use mathlib.Core.List.{List, []}
use mathlib.Core.Logic.{inl, inr, ◌⊎◌}
use mathlib.Core.Bool.{Bool, true, false}
use native.Mathlib.Omega.{arith}
use borrow.Author.Tests.{eq-eqb, le-leb, ne_eqb}
use Rattle.classes.specs.Classes.{is_white_space}
use Rattle.classes.specs.Digits.{digit_of, hex_value, is_digit, is_hex_digit, is_high_hex, is_low_hex}
use Rattle.encoding.specs.Encode.{is_scalar}
use Rattle.escapes.specs.Escapes.{byte_escape, byte_turn, char_escape, char_turn, close_of, digits_of, hex_of, hex_second, line_end, low_only, only_in_template, shared_of, shift_in, skip_white, unicode_of}
use Rattle.escapes.specs.declared.Escape.{Escape}
use Rattle.escapes.specs.declared.Escape.TheVariants.{Bad, Item}
use Rattle.escapes.specs.Numbers.{hex_digit_at}
use Rattle.laws.proofs.Cases.{never, split, within_inv}
use Rattle.text.proofs.Decode.{Step, by_step}
use Rattle.text.specs.Utf8.{rest, scalar_of}
use Rattle.text.specs.declared.utf8.Scalar.{Scalar}

pub hex_small : (v : ℕ) → hex_value v < 16
unfolding hex_value
hex_small v =
    split (is_digit v) (λ d. let w = within_inv 0x30 0x39 v d in simp d (omega arith))
    (λ d. split (is_low_hex v) (λ l. let w = within_inv 0x61 0x66 v l in simp (d, l) (omega arith))
    (λ l. split (is_high_hex v) (λ h. let w = within_inv 0x41 0x46 v h in simp (d, l, h) (omega arith)) (λ h. simp (d, l, h) (omega arith))))

module _ (s : List ℕ) (p : ℕ) where
  pub skip_end : rest s p ≡ [] → p ≡ skip_white (rest s p) p
  unfolding skip_white
  skip_end e = rw e

  pub second_end : (x : ℕ) → rest s p ≡ [] → Bad BadByteEscape p ≡ hex_second x (rest s p) p
  unfolding hex_second
  second_end x e = rw e

  pub hex_end : rest s p ≡ [] → Bad BadByteEscape p ≡ hex_of (rest s p) p
  unfolding hex_of
  hex_end e = rw e

  pub digits_end : (b : Bool) (x : ℕ) → rest s p ≡ [] → Bad BadUnicodeEscape p ≡ digits_of b x (rest s p) p
  unfolding digits_of
  digits_end b x e = rw e

  pub unicode_end : rest s p ≡ [] → Bad BadUnicodeEscape p ≡ unicode_of (rest s p) p
  unfolding unicode_of
  unicode_end e = rw e

  pub byte_end : (l : Bool) → rest s p ≡ [] → Bad BadEscapeSequence p ≡ byte_escape l (rest s p) p
  unfolding byte_escape
  byte_end l e = rw e

  pub char_end : (t l : Bool) → rest s p ≡ [] → Bad BadEscapeSequence p ≡ char_escape t l (rest s p) p
  unfolding char_escape
  char_end t l e = rw e

  module _ (v n : ℕ) (t : Step s p v n) where
    pub skip_stop : is_white_space v ≡ false → p ≡ skip_white (rest s p) p
    unfolding skip_white
    skip_stop h = rw t.here (rw (h, skip_white))

    pub skip_more : is_white_space v ≡ true → skip_white (rest s n) n ≡ skip_white (rest s p) p
    unfolding skip_white
    skip_more h = sym (rw t.here (rw (h, skip_white) (ap (skip_white (rest s n)) (sym t.next))))

    pub second_no : (x : ℕ) → is_hex_digit v ≡ false → Bad BadByteEscape n ≡ hex_second x (rest s p) p
    unfolding hex_second
    second_no x h = sym (rw t.here (rw (h, hex_second) (ap (Bad BadByteEscape) (sym t.next))))

    pub second_yes : (x : ℕ) {d : ℕ} → is_hex_digit v ≡ true → d ≡ hex_value v → Item (x * 16 + d) n ≡ hex_second x (rest s p) p
    unfolding hex_second
    second_yes x h e = sym (rw t.here (rw (h, hex_second) (rw e (ap (Item (x * 16 + hex_value v)) (sym t.next)))))

    pub hex_no : is_hex_digit v ≡ false → Bad BadByteEscape n ≡ hex_of (rest s p) p
    unfolding hex_of
    hex_no h = sym (rw t.here (rw (h, hex_of) (ap (Bad BadByteEscape) (sym t.next))))

    pub hex_yes : {d : ℕ} → is_hex_digit v ≡ true → d ≡ hex_value v → hex_second d (rest s n) n ≡ hex_of (rest s p) p
    unfolding hex_of
    hex_yes h e = sym (rw t.here (rw (h, hex_of) (rw e (ap (hex_second (hex_value v) (rest s n)) (sym t.next)))))

    pub digits_close : (b : Bool) (x : ℕ) → v ≡ 0x7d → close_of b x n ≡ digits_of b x (rest s p) p
    unfolding digits_of
    digits_close b x h = sym (rw t.here (rw (eq-eqb v 0x7d h, digits_of) (ap (close_of b x) (sym t.next))))

    pub digits_no : (b : Bool) (x : ℕ) → (v ≡ 0x7d → ⊥) → is_hex_digit v ≡ false → Bad BadUnicodeEscape n ≡ digits_of b x (rest s p) p
    unfolding digits_of
    digits_no b x h k = sym (rw t.here (rw (ne_eqb v 0x7d h, k, digits_of) (ap (Bad BadUnicodeEscape) (sym t.next))))

    pub digits_more : (b : Bool) (x : ℕ) {y : ℕ} → (v ≡ 0x7d → ⊥) → is_hex_digit v ≡ true → y ≡ shift_in x v → digits_of true y (rest s n) n ≡ digits_of b x (rest s p) p
    unfolding digits_of
    digits_more b x h k e = sym (rw t.here (rw (ne_eqb v 0x7d h, k, digits_of) (rw e (ap (digits_of true (shift_in x v) (rest s n)) (sym t.next)))))

    pub unicode_no : (v ≡ 0x7b → ⊥) → Bad BadUnicodeEscape n ≡ unicode_of (rest s p) p
    unfolding unicode_of
    unicode_no h = sym (rw t.here (rw (ne_eqb v 0x7b h, unicode_of) (ap (Bad BadUnicodeEscape) (sym t.next))))

    pub unicode_open : v ≡ 0x7b → digits_of false 0 (rest s n) n ≡ unicode_of (rest s p) p
    unfolding unicode_of
    unicode_open h = sym (rw t.here (rw (eq-eqb v 0x7b h, unicode_of) (ap (digits_of false 0 (rest s n)) (sym t.next))))

    pub byte_turn_law : (l : Bool) → byte_turn l v (rest s n) n ≡ byte_escape l (rest s p) p
    unfolding byte_escape
    byte_turn_law l = sym (rw t.here (ap (byte_turn l v (rest s n)) (sym t.next)))

    pub char_turn_law : (m l : Bool) → char_turn m l v (rest s n) n ≡ char_escape m l (rest s p) p
    unfolding char_escape
    char_turn_law m l = sym (rw t.here (ap (char_turn m l v (rest s n)) (sym t.next)))

pub close_yes : (b : Bool) (x p : ℕ) → b ≡ true → is_scalar x ≡ true → Item x p ≡ close_of b x p
close_yes b x p h k = rw (h, k)

pub low_yes : (e : Escape) (x p : ℕ) → e ≡ Item x p → x ≤ 0x7f → Item x p ≡ low_only e
low_yes e x p h k = rw (h, le-leb x 0x7f k)

module _ (l : Bool) (v : ℕ) (cs : List ℕ) (p : ℕ) where
  pub byte_shared : (v ≡ 0x0a → ⊥) → (v ≡ 0x0d → ⊥) → (v ≡ 0x78 → ⊥) → (v ≡ 0x75 → ⊥) → shared_of v p ≡ byte_turn l v cs p
  unfolding byte_turn
  byte_shared a b c d = rw (ne_eqb v 0x0a a, ne_eqb v 0x0d b, ne_eqb v 0x78 c, ne_eqb v 0x75 d)

  pub char_shared : (m : Bool) → (v ≡ 0x0a → ⊥) → (v ≡ 0x0d → ⊥) → (v ≡ 0x24 → ⊥) → (v ≡ 0x60 → ⊥) → (v ≡ 0x78 → ⊥) → (v ≡ 0x75 → ⊥) → shared_of v p ≡ char_turn m l v cs p
  unfolding char_turn
  char_shared m a b c d e f = rw (ne_eqb v 0x0a a, ne_eqb v 0x0d b, ne_eqb v 0x24 c, ne_eqb v 0x60 d, ne_eqb v 0x78 e, ne_eqb v 0x75 f)

  pub char_dollar : (m : Bool) → v ≡ 0x24 → only_in_template m v p ≡ char_turn m l v cs p
  unfolding char_turn
  char_dollar m h = subst (λ (x : ℕ). only_in_template m x p ≡ char_turn m l x cs p) (sym h) refl

  pub char_backtick : (m : Bool) → v ≡ 0x60 → only_in_template m v p ≡ char_turn m l v cs p
  unfolding char_turn
  char_backtick m h = subst (λ (x : ℕ). only_in_template m x p ≡ char_turn m l x cs p) (sym h) refl

-- a line end, or what templates alone have
module _ (l : Bool) (v : ℕ) (cs : List ℕ) (p : ℕ) where
  pub byte_line : (v ≡ 0x0a) ⊎ (v ≡ 0x0d) → line_end l cs p ≡ byte_turn l v cs p
  unfolding byte_turn
  byte_line (inl h) = sym (ap (λ (x : ℕ). byte_turn l x cs p) h)
  byte_line (inr h) = sym (ap (λ (x : ℕ). byte_turn l x cs p) h)

  pub char_line : (m : Bool) → (v ≡ 0x0a) ⊎ (v ≡ 0x0d) → line_end l cs p ≡ char_turn m l v cs p
  unfolding char_turn
  char_line m (inl h) = sym (ap (λ (x : ℕ). char_turn m l x cs p) h)
  char_line m (inr h) = sym (ap (λ (x : ℕ). char_turn m l x cs p) h)

  pub char_only : (m : Bool) → (v ≡ 0x24) ⊎ (v ≡ 0x60) → only_in_template m v p ≡ char_turn m l v cs p
  char_only m (inl h) = char_dollar l v cs p m h
  char_only m (inr h) = char_backtick l v cs p m h

-- a hex digit by its value
pub digit_none : (v : ℕ) → None ≡ digit_of v → is_hex_digit v ≡ false
unfolding digit_of
digit_none v h = split (is_hex_digit v) (λ k. never (let z = (rw k at h) in cc)) (λ k. k)

pub digit_some : (v d : ℕ) → Some d ≡ digit_of v → (is_hex_digit v ≡ true) × (d ≡ hex_value v)
unfolding digit_of
digit_some v d h = split (is_hex_digit v) (λ k. let z = (rw k at h) in (k, cc)) (λ k. never (let z = (rw k at h) in cc))

-- .. at a place of a source
module _ (s : List ℕ) (p : ℕ) where
  pub digit_end : rest s p ≡ [] → Err p ≡ hex_digit_at (rest s p) p
  unfolding hex_digit_at
  digit_end e = rw e

  module _ (v n : ℕ) (t : Step s p v n) where
    pub digit_no : is_hex_digit v ≡ false → Err n ≡ hex_digit_at (rest s p) p
    unfolding hex_digit_at
    digit_no h = sym (rw t.here (rw (h, hex_digit_at) (ap (λ (k : ℕ). Err k) (sym t.next))))

    pub digit_yes : {d : ℕ} → is_hex_digit v ≡ true → d ≡ hex_value v → Ok (scalar_of d n) ≡ hex_digit_at (rest s p) p
    unfolding hex_digit_at
    digit_yes h e = sym (rw t.here (rw (h, hex_digit_at) (rw e (ap (λ (k : ℕ). Ok (scalar_of (hex_value v) k)) (sym t.next)))))

  by_digit {ℓ} : {X : Type ℓ} → (rest s p ≡ [] → X) → ((v n : ℕ) → Step s p v n → is_hex_digit v ≡ false → X) → ((v n : ℕ) → Step s p v n → is_hex_digit v ≡ true → X) → X
  by_digit f g k = by_step s p f (λ v n t. split (is_hex_digit v) (λ h. k v n t h) (λ h. g v n t h))

  module _ (q : ℕ) (h : Err q ≡ hex_digit_at (rest s p) p) where
    err_at : (m : ℕ) → Err m ≡ hex_digit_at (rest s p) p → q ≡ m
    err_at m e = let y = h ∙ sym e in cc

    no_digit {ℓ} : {X : Type ℓ} (x : Scalar) → Ok x ≡ hex_digit_at (rest s p) p → X
    no_digit x e = never (let y = h ∙ sym e in cc)

    pub high_err : Bad BadByteEscape q ≡ hex_of (rest s p) p
    high_err =
        by_digit (λ e. ap (Bad BadByteEscape) (err_at p (digit_end e)) ∙ hex_end s p e)
        (λ v n t k. ap (Bad BadByteEscape) (err_at n (digit_no v n t k)) ∙ hex_no s p v n t k)
        (λ v n t k. no_digit _ (digit_yes v n t k refl))

    pub low_err : (x : ℕ) → Bad BadByteEscape q ≡ hex_second x (rest s p) p
    low_err x =
        by_digit (λ e. ap (Bad BadByteEscape) (err_at p (digit_end e)) ∙ second_end s p x e)
        (λ v n t k. ap (Bad BadByteEscape) (err_at n (digit_no v n t k)) ∙ second_no s p v n t x k)
        (λ v n t k. no_digit _ (digit_yes v n t k refl))

  module _ (y : Scalar) (h : Ok y ≡ hex_digit_at (rest s p) p) where
    by_found {ℓ} : {X : Type ℓ} → ((v n : ℕ) → Step s p v n → is_hex_digit v ≡ true → y ≡ scalar_of (hex_value v) n → X) → X
    by_found f =
        by_digit (λ e. never (let z = h ∙ sym (digit_end e) in cc))
        (λ v n t k. never (let z = h ∙ sym (digit_no v n t k) in cc))
        (λ v n t k. f v n t k (let z = h ∙ sym (digit_yes v n t k refl) in cc))

    pub digit_small : y.value < 16
    digit_small = by_found (λ v n t k e. subst (λ (x : Scalar). x.value < 16) (sym e) (hex_small v))

    pub high_ok : hex_second y.value (rest s y.next) y.next ≡ hex_of (rest s p) p
    high_ok = by_found (λ v n t k e. ap (λ (x : Scalar). hex_second x.value (rest s x.next) x.next) e ∙ hex_yes s p v n t k refl)

    pub low_ok : (x : ℕ) → Item (x * 16 + y.value) y.next ≡ hex_second x (rest s p) p
    low_ok x = by_found (λ v n t k e. ap (λ (z : Scalar). Item (x * 16 + z.value) z.next) e ∙ second_yes s p v n t x k refl)
