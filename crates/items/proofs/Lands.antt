-- Every escape ends at a scalar's place, so a body goes on there. Assumes nothing.
use Rattle.token.specs.declared.reason.Reason.TheVariants.{BadByteEscape, BadEscapeSequence, BadHexEscapeChar, BadUnicodeEscape, NotAscii}
use Prim.Native.Nat.{ℕ, ◌+◌, ◌*◌, ◌≤◌}
use mathlib.Core.Path.{◌≡◌, refl, sym, subst}
use mathlib.Core.List.{List, [], ◌∷◌}
use mathlib.Core.Bool.{Bool, true, false, not}
use mathlib.Core.Logic.{inl, inr, ◌⊎◌}
use native.Mathlib.Omega.{arith}
use lib.Dec.{leb, ltb, eqb}
use lib.ListN.{length}
use Rattle.classes.specs.Classes.{is_white_space}
use Rattle.classes.specs.Digits.{hex_value, is_hex_digit}
use Rattle.encoding.specs.Encode.{is_scalar}
use Rattle.escapes.specs.Escapes.{byte_escape, byte_turn, char_escape, char_turn, digits_of, hex_of, hex_second, line_end, low_only, only_in_template, shared_of, shift_in, skip_white, unicode_of}
use Rattle.escapes.specs.declared.Escape.{Escape}
use Rattle.escapes.specs.declared.Escape.TheVariants.{Bad, Item, Skipped}
use Rattle.items.specs.Items.{escape_of, is_bytes, is_single, is_template, item_of, plain_of}
use Rattle.items.specs.declared.Form.{Form}
use Rattle.laws.proofs.Cases.{split}
use Rattle.laws.specs.Bools.{both, pick}
use Rattle.text.proofs.Decode.{rest_room, rest_tail}
use Rattle.text.specs.Utf8.{rest, width}

-- r is the place of one of the scalars cs, the first of which stands at p, or of their end
abbrev pub Lands : List ℕ → ℕ → ℕ → Type 0
Lands [] p r = p ≡ r
Lands (v ∷ cs) p r = (p ≡ r) ⊎ Lands cs (p + width v) r

pub here : (cs : List ℕ) (p : ℕ) → Lands cs p p
here [] p = refl
here (v ∷ cs) p = inl refl

pub lands_le : (cs : List ℕ) (p r : ℕ) → Lands cs p r → p ≤ r
lands_le [] p r h = omega arith
lands_le (v ∷ cs) p r (inl h) = omega arith
lands_le (v ∷ cs) p r (inr h) = let w = lands_le cs (p + width v) r h in omega arith

pub lands_room : (s cs : List ℕ) (p r : ℕ) → cs ≡ rest s p → p ≤ length s → Lands cs p r → r ≤ length s
lands_room s [] p r e l h = omega arith
lands_room s (v ∷ cs) p r e l (inl h) = omega arith
lands_room s (v ∷ cs) p r e l (inr h) = lands_room s cs (p + width v) r (rest_tail s p v cs e) (rest_room s p v cs e) h

-- the place that an escape reaches
abbrev pub place_of : Escape → ℕ
place_of (Item x n) = n
place_of (Skipped n) = n
place_of (Bad number n) = n

-- what holds of both holds of the one that is picked
pub pick_of : {A : Type 0} (P : A → Type 0) (b : Bool) (x y : A) → P x → P y → P (pick b x y)
pick_of P true x y p q = p
pick_of P false x y p q = q

-- .. and it is enough that the first does where the test says so
pub pick_by : {A : Type 0} (P : A → Type 0) (b : Bool) (x y : A) → (b ≡ true → P x) → P y → P (pick b x y)
pick_by P true x y p q = p refl
pick_by P false x y p q = q

pub skip_lands : (cs : List ℕ) (p : ℕ) → Lands cs p (skip_white cs p)
unfolding skip_white
skip_lands [] p = refl
skip_lands (v ∷ cs) p =
    split (is_white_space v) (λ h. rw (h, skip_white) (inr (skip_lands cs (p + width v)))) (λ h. rw (h, skip_white) (inl refl))

pub shared_place : (v p : ℕ) → place_of (shared_of v p) ≡ p
unfolding shared_of
shared_place v p =
    let At : Escape → Type 0 = λ e. place_of e ≡ p in
    pick_of At (eqb v 0x27) _ _ refl
    (pick_of At (eqb v 0x22) _ _ refl
    (pick_of At (eqb v 0x6e) _ _ refl
    (pick_of At (eqb v 0x72) _ _ refl
    (pick_of At (eqb v 0x74) _ _ refl
    (pick_of At (eqb v 0x5c) _ _ refl
    (pick_of At (eqb v 0x30) _ _ refl refl))))))

low_place : (e : Escape) → place_of (low_only e) ≡ place_of e
low_place (Item x n) = pick_of (λ (e : Escape). place_of e ≡ n) (leb x 0x7f) (Item x n) (Bad BadHexEscapeChar n) refl refl
low_place (Skipped n) = refl
low_place (Bad number n) = refl

-- an escape that reaches such a place
abbrev Past : List ℕ → ℕ → Escape → Type 0
Past cs p e = Lands cs p (place_of e)

pub second_lands : (x : ℕ) (cs : List ℕ) (p : ℕ) → Lands cs p (place_of (hex_second x cs p))
unfolding hex_second
second_lands x [] p = refl
second_lands x (v ∷ cs) p = pick_of (Past (v ∷ cs) p) (is_hex_digit v) (Item (x * 16 + hex_value v) (p + width v)) (Bad BadByteEscape (p + width v)) (inr (here cs (p + width v))) (inr (here cs (p + width v)))

pub hex_lands : (cs : List ℕ) (p : ℕ) → Lands cs p (place_of (hex_of cs p))
unfolding hex_of
hex_lands [] p = refl
hex_lands (v ∷ cs) p = pick_of (Past (v ∷ cs) p) (is_hex_digit v) (hex_second (hex_value v) cs (p + width v)) (Bad BadByteEscape (p + width v)) (inr (second_lands (hex_value v) cs (p + width v))) (inr (here cs (p + width v)))

pub digits_lands : (b : Bool) (x : ℕ) (cs : List ℕ) (p : ℕ) → Lands cs p (place_of (digits_of b x cs p))
unfolding digits_of
digits_lands b x [] p = refl
digits_lands b x (v ∷ cs) p =
    split (eqb v 0x7d)
    (λ h. rw (h, digits_of) (pick_of (Past (v ∷ cs) p) (both b (is_scalar x)) (Item x (p + width v)) (Bad BadUnicodeEscape (p + width v)) (inr (here cs (p + width v))) (inr (here cs (p + width v)))))
    (λ h. split (is_hex_digit v) (λ k. rw (h, k, digits_of) (inr (digits_lands true (shift_in x v) cs (p + width v)))) (λ k. rw (h, k, digits_of) (inr (here cs (p + width v)))))

pub unicode_lands : (cs : List ℕ) (p : ℕ) → Lands cs p (place_of (unicode_of cs p))
unfolding unicode_of
unicode_lands [] p = refl
unicode_lands (v ∷ cs) p = pick_of (Past (v ∷ cs) p) (eqb v 0x7b) (digits_of false 0 cs (p + width v)) (Bad BadUnicodeEscape (p + width v)) (inr (digits_lands false 0 cs (p + width v))) (inr (here cs (p + width v)))

module _ (cs : List ℕ) (p : ℕ) where
  at_place : (e : Escape) → place_of e ≡ p → Lands cs p (place_of e)
  at_place e h = subst (λ (r : ℕ). Lands cs p r) (sym h) (here cs p)

  line_lands : (l : Bool) → Lands cs p (place_of (line_end l cs p))
  line_lands true = skip_lands cs p
  line_lands false = here cs p

  pub low_lands : Lands cs p (place_of (low_only (hex_of cs p)))
  low_lands = subst (λ (r : ℕ). Lands cs p r) (sym (low_place (hex_of cs p))) (hex_lands cs p)

  template_lands : (m : Bool) (v : ℕ) → Lands cs p (place_of (only_in_template m v p))
  template_lands m v = at_place (only_in_template m v p) (pick_of (λ (e : Escape). place_of e ≡ p) m (Item v p) (Bad BadEscapeSequence p) refl refl)

  byte_turn_lands : (l : Bool) (v : ℕ) → Lands cs p (place_of (byte_turn l v cs p))
  unfolding byte_turn
  byte_turn_lands l v =
      pick_of (Past cs p) (eqb v 0x0a) _ _ (line_lands l)
      (pick_of (Past cs p) (eqb v 0x0d) _ _ (line_lands l)
      (pick_of (Past cs p) (eqb v 0x78) _ _ (hex_lands cs p)
      (pick_of (Past cs p) (eqb v 0x75) _ _ (here cs p) (at_place (shared_of v p) (shared_place v p)))))

  char_turn_lands : (m l : Bool) (v : ℕ) → Lands cs p (place_of (char_turn m l v cs p))
  unfolding char_turn
  char_turn_lands m l v =
      pick_of (Past cs p) (eqb v 0x0a) _ _ (line_lands l)
      (pick_of (Past cs p) (eqb v 0x0d) _ _ (line_lands l)
      (pick_of (Past cs p) (eqb v 0x24) _ _ (template_lands m v)
      (pick_of (Past cs p) (eqb v 0x60) _ _ (template_lands m v)
      (pick_of (Past cs p) (eqb v 0x78) _ _ low_lands
      (pick_of (Past cs p) (eqb v 0x75) _ _ (unicode_lands cs p) (at_place (shared_of v p) (shared_place v p)))))))

pub byte_lands : (l : Bool) (cs : List ℕ) (p : ℕ) → Lands cs p (place_of (byte_escape l cs p))
unfolding byte_escape
byte_lands l [] p = refl
byte_lands l (v ∷ cs) p = inr (byte_turn_lands cs (p + width v) l v)

pub char_lands : (m l : Bool) (cs : List ℕ) (p : ℕ) → Lands cs p (place_of (char_escape m l cs p))
unfolding char_escape
char_lands m l [] p = refl
char_lands m l (v ∷ cs) p = inr (char_turn_lands cs (p + width v) m l v)

pub item_lands : (form : Form) (v : ℕ) (cs : List ℕ) (p : ℕ) → Lands cs p (place_of (item_of form v cs p))
unfolding item_of
item_lands form v cs p =
    pick_of (Past cs p) (eqb v 0x5c) (escape_of form cs p) (plain_of form v p)
    (pick_of (Past cs p) (is_bytes form) _ _ (byte_lands (not (is_single form)) cs p) (char_lands (is_template form) (not (is_single form)) cs p))
    (pick_of (Past cs p) (both (is_bytes form) (ltb 0x7f v)) (Bad NotAscii p) (Item v p) (here cs p) (here cs p))
