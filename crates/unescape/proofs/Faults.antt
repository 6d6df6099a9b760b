-- Of a body nothing but document 01's cases is refused: 1 and 2 for its bytes, 20 to 25 for an escape, 27 and 26 for the whole. Assumes nothing.
use Rattle.token.specs.declared.reason.Reason.{Reason}
use Rattle.std.specs.Prelude.{Err, Ok}
use Rattle.token.specs.Reads.{Counted}
use Rattle.token.specs.Reads.{number_in, reason_number}
use Rattle.token.specs.declared.reason.Reason.TheVariants.{BadEscapeSequence, BadHexEscapeChar, BadUnicodeEscape, NotAscii, NotOneItem, OutputShort}
use Prim.Native.Nat.{ℕ, ◌+◌, ◌<◌}
use mathlib.Core.Path.{◌≡◌, refl, sym, ◌∙◌, subst}
use mathlib.Core.List.{List, [], ◌∷◌}
use mathlib.Core.Bool.{Bool, true, false, not}
use mathlib.Core.Logic.{inl, inr, ◌⊎◌}
use native.Mathlib.Omega.{arith}
use lib.Dec.{leb, ltb, eqb}
use lib.ListN.{length}
use borrow.Author.Tests.{lt-ltb, ne_eqb}
use Rattle.classes.specs.Digits.{is_hex_digit}
use Rattle.encoding.specs.Encode.{is_scalar}
use Rattle.escapes.specs.Escapes.{byte_escape, byte_turn, char_escape, char_turn, digits_of, hex_of, hex_second, line_end, low_only, shared_of, shift_in, unicode_of}
use Rattle.escapes.specs.declared.Escape.{Escape}
use Rattle.escapes.specs.declared.Escape.TheVariants.{Bad, Item, Skipped}
use Rattle.items.proofs.Lands.{pick_of}
use Rattle.items.specs.Items.{is_bytes, is_single, is_template, item_of}
use Rattle.items.specs.declared.Form.{Form}
use Rattle.laws.proofs.Cases.{split, within_inv, within_yes}
use Rattle.laws.specs.Bools.{both, pick, within}
use Rattle.source_test.proofs.Places.{by_tested}
use Rattle.source_test.specs.Source.{source_test}
use Rattle.text.specs.Utf8.{rest, width}
use Rattle.token.specs.declared.read.Refusal.{Refusal}
use Rattle.unescape.proofs.Bodies.{body_at, by_ending, read_fault, read_whole, source_refused, source_sound}
use Rattle.unescape.proofs.Holds.{count_right}
use Rattle.unescape.specs.Bodies.{Body, Ending, Result, body_of, fault, item_turn, items_bytes, refuse, unescape_of, whole, wrong_count, wrote}

-- an escape, how a body ends, and an answer: no fault, or one with such a number
abbrev Numbered : Escape → Type 0
Numbered (Item x n) = Unit {0}
Numbered (Skipped n) = Unit {0}
Numbered (Bad reason n) = within 20 25 (reason_number reason) ≡ true

abbrev Ends : Ending → Type 0
Ends whole = Unit {0}
Ends (fault reason start end) = within 20 25 (reason_number reason) ≡ true

abbrev Refuses : List ℕ → Counted → Type 0
Refuses s (Ok n) = Unit {0}
Refuses s (Err r) = (source_test s ≡ Err r) ⊎ (within 20 27 (number_in r) ≡ true)

shared_numbered : (v p : ℕ) → Numbered (shared_of v p)
unfolding shared_of
shared_numbered v p =
    pick_of Numbered (eqb v 0x27) _ _ tt
    (pick_of Numbered (eqb v 0x22) _ _ tt
    (pick_of Numbered (eqb v 0x6e) _ _ tt
    (pick_of Numbered (eqb v 0x72) _ _ tt
    (pick_of Numbered (eqb v 0x74) _ _ tt
    (pick_of Numbered (eqb v 0x5c) _ _ tt
    (pick_of Numbered (eqb v 0x30) _ _ tt refl))))))

hex_numbered : (cs : List ℕ) (p : ℕ) → Numbered (hex_of cs p)
unfolding hex_of hex_second
hex_numbered [] p = refl
hex_numbered (v ∷ []) p = pick_of Numbered (is_hex_digit v) _ _ refl refl
hex_numbered (v ∷ (w ∷ cs)) p = pick_of Numbered (is_hex_digit v) _ _ (pick_of Numbered (is_hex_digit w) _ _ tt refl) refl

low_numbered : (e : Escape) → Numbered e → Numbered (low_only e)
low_numbered (Item x n) h = pick_of Numbered (leb x 0x7f) (Item x n) (Bad BadHexEscapeChar n) tt refl
low_numbered (Skipped n) h = tt
low_numbered (Bad reason n) h = h

digits_numbered : (some : Bool) (x : ℕ) (cs : List ℕ) (p : ℕ) → Numbered (digits_of some x cs p)
unfolding digits_of
digits_numbered some x [] p = refl
digits_numbered some x (v ∷ cs) p =
    split (eqb v 0x7d) (λ h. rw (h, digits_of) (pick_of Numbered (both some (is_scalar x)) (Item x (p + width v)) (Bad BadUnicodeEscape (p + width v)) tt refl))
    (λ h. split (is_hex_digit v) (λ k. rw (h, k, digits_of) (digits_numbered true (shift_in x v) cs (p + width v))) (λ k. rw (h, k, digits_of) refl))

unicode_numbered : (cs : List ℕ) (p : ℕ) → Numbered (unicode_of cs p)
unfolding unicode_of
unicode_numbered [] p = refl
unicode_numbered (v ∷ cs) p = pick_of Numbered (eqb v 0x7b) _ _ (digits_numbered false 0 cs (p + width v)) refl

line_numbered : (lines : Bool) (cs : List ℕ) (p : ℕ) → Numbered (line_end lines cs p)
line_numbered true cs p = tt
line_numbered false cs p = refl

byte_numbered : (lines : Bool) (cs : List ℕ) (p : ℕ) → Numbered (byte_escape lines cs p)
unfolding byte_escape byte_turn
byte_numbered lines [] p = refl
byte_numbered lines (v ∷ cs) p =
    let q = p + width v in
    pick_of Numbered (eqb v 0x0a) _ _ (line_numbered lines cs q)
    (pick_of Numbered (eqb v 0x0d) _ _ (line_numbered lines cs q)
    (pick_of Numbered (eqb v 0x78) _ _ (hex_numbered cs q)
    (pick_of Numbered (eqb v 0x75) _ _ refl (shared_numbered v q))))

char_numbered : (template lines : Bool) (cs : List ℕ) (p : ℕ) → Numbered (char_escape template lines cs p)
unfolding char_escape char_turn
char_numbered template lines [] p = refl
char_numbered template lines (v ∷ cs) p =
    let q = p + width v in
    let only = pick_of Numbered template (Item v q) (Bad BadEscapeSequence q) tt refl in
    pick_of Numbered (eqb v 0x0a) _ _ (line_numbered lines cs q)
    (pick_of Numbered (eqb v 0x0d) _ _ (line_numbered lines cs q)
    (pick_of Numbered (eqb v 0x24) _ _ only
    (pick_of Numbered (eqb v 0x60) _ _ only
    (pick_of Numbered (eqb v 0x78) _ _ (low_numbered (hex_of cs q) (hex_numbered cs q))
    (pick_of Numbered (eqb v 0x75) _ _ (unicode_numbered cs q) (shared_numbered v q))))))

item_numbered : (form : Form) (v : ℕ) (cs : List ℕ) (p : ℕ) → Numbered (item_of form v cs p)
unfolding item_of
item_numbered form v cs p =
    pick_of Numbered (eqb v 0x5c) _ _
    (pick_of Numbered (is_bytes form) _ _ (byte_numbered (not (is_single form)) cs p) (char_numbered (is_template form) (not (is_single form)) cs p))
    (pick_of Numbered (both (is_bytes form) (ltb 0x7f v)) (Bad NotAscii p) (Item v p) refl tt)

turn_ends : (p : ℕ) (e : Escape) (go : ℕ → Body) → Numbered e → ((n : ℕ) → Ends (go n).ending) → Ends (item_turn p e go).ending
unfolding item_turn
turn_ends p (Item x n) go h g = g n
turn_ends p (Skipped n) go h g = g n
turn_ends p (Bad reason n) go h g = h

body_ends : (form : Form) (t : ℕ) (cs : List ℕ) (p : ℕ) → Ends (body_of form t cs p).ending
unfolding body_of
body_ends form t [] p = tt
body_ends form t (v ∷ cs) p =
    let q = p + width v in
    split (ltb p t) (λ h. rw (h, body_of) (body_ends form t cs q))
    (λ h. rw (h, body_of) (turn_ends p (item_of form v cs q) (λ n. body_of form n cs q) (item_numbered form v cs q) (λ n. body_ends form n cs q)))

-- the fault that ends a body is one of 20 to 25
pub fault_number : (form : Form) (t : ℕ) (cs : List ℕ) (p : ℕ) (reason : Reason) (start end : ℕ) → (body_of form t cs p).ending ≡ fault reason start end → within 20 25 (reason_number reason) ≡ true
fault_number form t cs p reason start end e = subst Ends e (body_ends form t cs p)

module _ (form : Form) (s : List ℕ) (room : ℕ) where
  abbrev body : Body
  body = body_at form s 0

  answers : (x : Result) → unescape_of form s room ≡ x → Refuses s x.answer → Refuses s (unescape_of form s room).answer
  answers x e h = subst (λ (y : Result). Refuses s y.answer) (sym e) h

  refuses_by : Refuses s (unescape_of form s room).answer
  refuses_by =
      by_tested (source_test s)
      (λ h.
      let u = source_sound form s room (source_test s) refl h in
      by_ending body.ending
      (λ w. answers _ (u ∙ read_whole form s room w)
      (pick_of (λ (x : Result). Refuses s x.answer) (wrong_count form (length body.items)) _ _ (inr refl)
      (pick_of (λ (x : Result). Refuses s x.answer) (ltb room (length (items_bytes form body.items))) _ _ (inr refl) tt)))
      (λ reason start end w.
      let k = within_inv 20 25 (reason_number reason) (fault_number form 0 (rest s 0) 0 reason start end w) in
      answers _ (u ∙ read_fault form s room reason start end w) (inr (within_yes 20 27 (reason_number reason) k.0 (omega (arith, k.1))))))
      (λ r h. answers _ (source_refused form s room (source_test s) refl r h) (inl h))

  -- a body is refused as its bytes are, or with one of 20 to 27
  pub unescape_refusal : (r : Refusal) → (unescape_of form s room).answer ≡ Err r → (source_test s ≡ Err r) ⊎ (within 20 27 (number_in r) ≡ true)
  unescape_refusal r e = subst (Refuses s) e refuses_by

  -- in a well-formed body without a fault
  module _ (h : source_test s ≡ Ok tt) (w : body.ending ≡ whole) where
    judged : unescape_of form s room ≡ pick (wrong_count form (length body.items)) (refuse NotOneItem 0 (length s)) (pick (ltb room (length (items_bytes form body.items))) (refuse OutputShort 0 (length s)) (wrote (items_bytes form body.items)))
    judged = source_sound form s room (source_test s) refl h ∙ read_whole form s room w

    -- .. 27 where a char or a byte gives other than one item
    pub not_one_item : is_single form ≡ true → (length body.items ≡ 1 → ⊥) → unescape_of form s room ≡ refuse NotOneItem 0 (length s)
    not_one_item i k = judged ∙ rw (i, ne_eqb (length body.items) 1 k)

    -- .. else 26 where the output is too short
    pub short_output : (is_single form ≡ true → length body.items ≡ 1) → room < length (items_bytes form body.items) → unescape_of form s room ≡ refuse OutputShort 0 (length s)
    short_output i l = judged ∙ rw (count_right form (length body.items) i, lt-ltb room (length (items_bytes form body.items)) l)
