-- What an item is, and that its bytes are no more than those that it was read from. Assumes nothing.
use Rattle.token.specs.declared.reason.Reason.TheVariants.{BadByteEscape, BadHexEscapeChar, BadUnicodeEscape}
use Prim.Native.Nat.{ℕ, ◌+◌, ◌*◌, ◌≤◌, ◌<◌}
use mathlib.Core.Path.{◌≡◌, sym, ap, ◌∙◌, subst}
use mathlib.Core.List.{List, [], ◌∷◌}
use mathlib.Core.Bool.{Bool, true, false, not}
use native.Mathlib.Omega.{arith}
use lib.Dec.{leb, ltb, eqb}
use lib.ListN.{length}
use borrow.Author.Tests.{eq-eqb, eqb-true, leb-true, ltb-false, ne_eqb}
use Rattle.classes.specs.Digits.{hex_value, is_hex_digit}
use Rattle.encoding.proofs.Rows.{by_row, encode_length, encode_none, scalar_low}
use Rattle.encoding.specs.Encode.{encode_of, is_scalar}
use Rattle.escapes.proofs.Escapes.{hex_small}
use Rattle.escapes.specs.Escapes.{byte_escape, byte_turn, char_escape, char_turn, close_of, digits_of, hex_of, hex_second, line_end, low_only, only_in_template, shared_of, shift_in, unicode_of}
use Rattle.escapes.specs.declared.Escape.{Escape}
use Rattle.escapes.specs.declared.Escape.TheVariants.{Bad, Item, Skipped}
use Rattle.items.proofs.Lands.{lands_le, low_lands, pick_by, pick_of, place_of, shared_place}
use Rattle.items.specs.Items.{escape_of, is_bytes, is_single, is_template, item_bytes, item_of, plain_of}
use Rattle.items.specs.declared.Form.{Form}
use Rattle.laws.proofs.Cases.{never, split, split_eq}
use Rattle.laws.specs.Bools.{pick}
use Rattle.text.proofs.Decode.{width_pos}
use Rattle.text.proofs.Leads.{width_1, width_2, width_3, width_4}
use Rattle.text.specs.Utf8.{width}

pub width_most : (v : ℕ) → width v ≤ 4
width_most v =
    by_row v (λ h. omega (arith, width_1 v h)) (λ h k. omega (arith, width_2 v h k)) (λ h k. omega (arith, width_3 v h k)) (λ h. omega (arith, width_4 v h))

-- an item below 0x80; a byte; a scalar. What follows the backslash starts at p, and is no narrower than the item
abbrev Low : Escape → Type 0
Low (Item x n) = x ≤ 0x7f
Low (Skipped n) = Unit {0}
Low (Bad number n) = Unit {0}

abbrev ByteItem : ℕ → Escape → Type 0
ByteItem p (Item x n) = (x ≤ 0xff) × (p < n)
ByteItem p (Skipped n) = Unit {0}
ByteItem p (Bad number n) = Unit {0}

abbrev CharItem : ℕ → Escape → Type 0
CharItem p (Item x n) = (is_scalar x ≡ true) × (p + width x ≤ n)
CharItem p (Skipped n) = Unit {0}
CharItem p (Bad number n) = Unit {0}

low_byte : (p : ℕ) (e : Escape) → p < place_of e → Low e → ByteItem p e
low_byte p (Item x n) l h = (omega arith, l)
low_byte p (Skipped n) l h = tt
low_byte p (Bad number n) l h = tt

low_char : (p : ℕ) (e : Escape) → p < place_of e → Low e → CharItem p e
low_char p (Item x n) l h = (scalar_low x (omega arith), omega (arith, width_1 x h))
low_char p (Skipped n) l h = tt
low_char p (Bad number n) l h = tt

shared_low : (v p : ℕ) → Low (shared_of v p)
unfolding shared_of
shared_low v p =
    pick_of Low (eqb v 0x27) _ _ (omega arith)
    (pick_of Low (eqb v 0x22) _ _ (omega arith)
    (pick_of Low (eqb v 0x6e) _ _ (omega arith)
    (pick_of Low (eqb v 0x72) _ _ (omega arith)
    (pick_of Low (eqb v 0x74) _ _ (omega arith)
    (pick_of Low (eqb v 0x5c) _ _ (omega arith)
    (pick_of Low (eqb v 0x30) _ _ (omega arith) tt))))))

only_low : (e : Escape) → Low (low_only e)
only_low (Item x n) = pick_by Low (leb x 0x7f) (Item x n) (Bad BadHexEscapeChar n) (λ h. leb-true x 0x7f h) tt
only_low (Skipped n) = tt
only_low (Bad number n) = tt

-- after the brace at p: a scalar, with a digit still to come or not, and the other brace
abbrev Digits : Bool → ℕ → Escape → Type 0
Digits b p (Item x n) = (is_scalar x ≡ true) × (p + pick b 1 2 ≤ n)
Digits b p (Skipped n) = Unit {0}
Digits b p (Bad number n) = Unit {0}

digits_later : (b : Bool) (p v : ℕ) (e : Escape) → Digits true (p + width v) e → Digits b p e
digits_later true p v (Item x n) h = (h.0, omega (arith, h.1))
digits_later false p v (Item x n) h = (h.0, omega (arith, h.1, width_pos v))
digits_later b p v (Skipped n) h = tt
digits_later b p v (Bad number n) h = tt

digits_close_item : (b : Bool) (x p v : ℕ) → Digits b p (close_of b x (p + width v))
digits_close_item true x p v = pick_by (Digits true p) (is_scalar x) (Item x (p + width v)) (Bad BadUnicodeEscape (p + width v)) (λ h. (h, omega (arith, width_pos v))) tt
digits_close_item false x p v = tt

digits_item : (b : Bool) (x : ℕ) (cs : List ℕ) (p : ℕ) → Digits b p (digits_of b x cs p)
unfolding digits_of
digits_item b x [] p = tt
digits_item b x (v ∷ cs) p =
    split (eqb v 0x7d) (λ h. rw (h, digits_of) (digits_close_item b x p v))
    (λ h. split (is_hex_digit v)
    (λ k. rw (h, k, digits_of) (digits_later b p v (digits_of true (shift_in x v) cs (p + width v)) (digits_item true (shift_in x v) cs (p + width v))))
    (λ k. rw (h, k, digits_of) tt))

module _ (p q : ℕ) (l : p < q) where
  second_byte : (x : ℕ) (cs : List ℕ) (r : ℕ) → q ≤ r → x < 16 → ByteItem p (hex_second x cs r)
  unfolding hex_second
  second_byte x [] r k h = tt
  second_byte x (v ∷ cs) r k h =
      pick_of (ByteItem p) (is_hex_digit v) (Item (x * 16 + hex_value v) (r + width v)) (Bad BadByteEscape (r + width v)) (omega (arith, hex_small v), omega arith) tt

  hex_byte : (cs : List ℕ) → ByteItem p (hex_of cs q)
  unfolding hex_of
  hex_byte [] = tt
  hex_byte (v ∷ cs) =
      pick_of (ByteItem p) (is_hex_digit v) (hex_second (hex_value v) cs (q + width v)) (Bad BadByteEscape (q + width v)) (second_byte (hex_value v) cs (q + width v) (omega arith) (hex_small v)) tt

  line_byte : (b : Bool) (cs : List ℕ) → ByteItem p (line_end b cs q)
  line_byte true cs = tt
  line_byte false cs = tt

  byte_turn_item : (b : Bool) (v : ℕ) (cs : List ℕ) → ByteItem p (byte_turn b v cs q)
  unfolding byte_turn
  byte_turn_item b v cs =
      pick_of (ByteItem p) (eqb v 0x0a) _ _ (line_byte b cs)
      (pick_of (ByteItem p) (eqb v 0x0d) _ _ (line_byte b cs)
      (pick_of (ByteItem p) (eqb v 0x78) _ _ (hex_byte cs)
      (pick_of (ByteItem p) (eqb v 0x75) _ _ tt (low_byte p (shared_of v q) (omega (arith, shared_place v q)) (shared_low v q)))))

  digits_char : (v : ℕ) (e : Escape) → Digits false (q + width v) e → CharItem p e
  digits_char v (Item x n) h = (h.0, omega (arith, h.1, width_most x, width_pos v))
  digits_char v (Skipped n) h = tt
  digits_char v (Bad number n) h = tt

  unicode_char : (cs : List ℕ) → CharItem p (unicode_of cs q)
  unfolding unicode_of
  unicode_char [] = tt
  unicode_char (v ∷ cs) =
      pick_of (CharItem p) (eqb v 0x7b) (digits_of false 0 cs (q + width v)) (Bad BadUnicodeEscape (q + width v))
      (digits_char v (digits_of false 0 cs (q + width v)) (digits_item false 0 cs (q + width v))) tt

  low_hex_char : (cs : List ℕ) → CharItem p (low_only (hex_of cs q))
  low_hex_char cs = low_char p (low_only (hex_of cs q)) (omega (arith, lands_le cs q _ (low_lands cs q))) (only_low (hex_of cs q))

  shared_char : (v : ℕ) → CharItem p (shared_of v q)
  shared_char v = low_char p (shared_of v q) (omega (arith, shared_place v q)) (shared_low v q)

  line_char : (b : Bool) (cs : List ℕ) → CharItem p (line_end b cs q)
  line_char true cs = tt
  line_char false cs = tt

  template_char : (m : Bool) (v : ℕ) → v ≤ 0x7f → CharItem p (only_in_template m v q)
  template_char true v h = low_char p (Item v q) (omega arith) h
  template_char false v h = tt

  char_turn_item : (m b : Bool) (v : ℕ) (cs : List ℕ) → CharItem p (char_turn m b v cs q)
  unfolding char_turn
  char_turn_item m b v cs =
      pick_of (CharItem p) (eqb v 0x0a) _ _ (line_char b cs)
      (pick_of (CharItem p) (eqb v 0x0d) _ _ (line_char b cs)
      (pick_by (CharItem p) (eqb v 0x24) _ _ (λ h. template_char m v (omega (arith, eqb-true v 0x24 h)))
      (pick_by (CharItem p) (eqb v 0x60) _ _ (λ h. template_char m v (omega (arith, eqb-true v 0x60 h)))
      (pick_of (CharItem p) (eqb v 0x78) _ _ (low_hex_char cs)
      (pick_of (CharItem p) (eqb v 0x75) _ _ (unicode_char cs) (shared_char v))))))

char_item : (m b : Bool) (cs : List ℕ) (p : ℕ) → CharItem p (char_escape m b cs p)
unfolding char_escape
char_item m b [] p = tt
char_item m b (v ∷ cs) p = char_turn_item p (p + width v) (omega (arith, width_pos v)) m b v cs

byte_item : (b : Bool) (cs : List ℕ) (p : ℕ) → ByteItem p (byte_escape b cs p)
unfolding byte_escape
byte_item b [] p = tt
byte_item b (v ∷ cs) p = byte_turn_item p (p + width v) (omega (arith, width_pos v)) b v cs

-- an item that was read from the bytes between a and n: its own bytes are no more, and it is a scalar or a byte by the form
pub record Fits (form : Form) (a x n : ℕ) : Type 0 where
  pub room : a + length (item_bytes form x) ≤ n
  pub scalar : is_bytes form ≡ false → is_scalar x ≡ true
  pub byte : is_bytes form ≡ true → x ≤ 0xff

abbrev Fit : Form → ℕ → Escape → Type 0
Fit form a (Item x n) = Fits form a x n
Fit form a (Skipped n) = Unit {0}
Fit form a (Bad number n) = Unit {0}

module _ (form : Form) (x : ℕ) where
  pub byte_bytes : is_bytes form ≡ true → item_bytes form x ≡ x ∷ []
  unfolding item_bytes
  byte_bytes h = rw (h, item_bytes)

  pub scalar_bytes : is_bytes form ≡ false → item_bytes form x ≡ encode_of x
  unfolding item_bytes
  scalar_bytes h = rw (h, item_bytes)

  fits_byte : (a n : ℕ) → is_bytes form ≡ true → a < n → x ≤ 0xff → Fits form a x n
  fits_byte a n h l k = record { room = omega (arith, ap length (byte_bytes h)); scalar = λ z. never (cc); byte = λ z. k }

  fits_scalar : (a n : ℕ) → is_bytes form ≡ false → a + width x ≤ n → is_scalar x ≡ true → Fits form a x n
  fits_scalar a n h l k = record { room = omega (arith, ap length (scalar_bytes h), encode_length x k); scalar = λ z. k; byte = λ z. never (cc) }

module _ (form : Form) (p : ℕ) where
  fit_byte : is_bytes form ≡ true → (e : Escape) → ByteItem p e → Fit form p e
  fit_byte h (Item x n) k = fits_byte form x p n h k.1 k.0
  fit_byte h (Skipped n) k = tt
  fit_byte h (Bad number n) k = tt

  fit_char : is_bytes form ≡ false → (e : Escape) → CharItem p e → Fit form p e
  fit_char h (Item x n) k = fits_scalar form x p n h k.1 k.0
  fit_char h (Skipped n) k = tt
  fit_char h (Bad number n) k = tt

  fit_escape : (cs : List ℕ) → Fit form p (escape_of form cs p)
  fit_escape cs =
      split (is_bytes form) (λ h. rw h (fit_byte h (byte_escape (not (is_single form)) cs p) (byte_item (not (is_single form)) cs p)))
      (λ h. rw h (fit_char h (char_escape (is_template form) (not (is_single form)) cs p) (char_item (is_template form) (not (is_single form)) cs p)))

  fit_plain : (v : ℕ) → is_scalar v ≡ true → Fit form p (plain_of form v (p + width v))
  fit_plain v i =
      split (is_bytes form)
      (λ h. split (ltb 0x7f v) (λ k. rw (h, k) tt) (λ k. rw (h, k) (fits_byte form v p (p + width v) h (omega (arith, width_pos v)) (omega (arith, ltb-false 0x7f v k)))))
      (λ h. rw h (fits_scalar form v p (p + width v) h (omega arith) i))

fits_later : (form : Form) (a b x n : ℕ) → a ≤ b → Fits form b x n → Fits form a x n
fits_later form a b x n l f = record { room = omega (arith, f.room); scalar = f.scalar; byte = f.byte }

-- the item of an escape fits after its backslash, which stands at a
pub escape_fits : (form : Form) (a v : ℕ) (cs : List ℕ) (x n : ℕ) → v ≡ 0x5c → item_of form v cs (a + width v) ≡ Item x n → Fits form (a + 1) x n
unfolding item_of
escape_fits form a v cs x n e h =
    let w : a + width v ≡ a + 1 = omega (arith, width_1 v (omega arith)) in
    let f : item_of form v cs (a + width v) ≡ escape_of form cs (a + 1) = rw (eq-eqb v 0x5c e) (ap (escape_of form cs) w) in
    subst (Fit form (a + 1)) (sym f ∙ h) (fit_escape form (a + 1) cs)

pub item_fits : (form : Form) (a v : ℕ) (cs : List ℕ) (x n : ℕ) → is_scalar v ≡ true → item_of form v cs (a + width v) ≡ Item x n → Fits form a x n
unfolding item_of
item_fits form a v cs x n i h =
    split_eq v 0x5c (λ e. fits_later form a (a + 1) x n (omega arith) (escape_fits form a v cs x n e h))
    (λ e.
    let f : item_of form v cs (a + width v) ≡ plain_of form v (a + width v) = rw (ne_eqb v 0x5c e) in
    subst (Fit form a) (sym f ∙ h) (fit_plain form a v i))

-- no item has more than four bytes
pub item_four : (form : Form) (x : ℕ) → length (item_bytes form x) ≤ 4
item_four form x =
    split (is_bytes form) (λ h. omega (arith, ap length (byte_bytes form x h)))
    (λ h. split (is_scalar x) (λ i. omega (arith, ap length (scalar_bytes form x h), encode_length x i, width_most x))
    (λ i. omega (arith, ap length (scalar_bytes form x h ∙ encode_none x i))))
