-- An escape of two bytes is the item that document 01 gives it. Assumes nothing.
use Prim.Native.Nat.{ℕ, ◌+◌, ◌%◌, ◌≤◌, ◌<◌}
use mathlib.Core.Path.{◌≡◌, refl, sym, ap, ◌∙◌, subst}
use mathlib.Core.List.{List, ◌∷◌}
use mathlib.Core.Bool.{Bool, true, false}
use native.Mathlib.Omega.{arith}
use lib.Dec.{eqb}
use lib.ListN.{get_or-eq_default, get_or, length}
use borrow.Author.Tests.{eq-eqb, ne_eqb}
use Rattle.escapes.specs.Escapes.{byte_escape, byte_turn, char_escape, char_turn, shared_of}
use Rattle.escapes.specs.declared.Escape.{Escape}
use Rattle.escapes.specs.declared.Escape.TheVariants.{Item}
use Rattle.items.proofs.Lands.{pick_of}
use Rattle.items.specs.Items.{is_template, item_of}
use Rattle.items.specs.declared.Form.{Form}
use Rattle.items.specs.declared.Form.TheVariants.{Byte, ByteText, Char, Template, Text}
use Rattle.laws.proofs.Cases.{never, split, split_eq, split_le}
use Rattle.runs.specs.Runs.{escaped_at, item_in, limit_of, short_of}
use Rattle.text.proofs.Decode.{Step, step_ascii}
use Rattle.text.specs.Utf8.{rest, width}

-- a byte that is not in the table
pub no_short : (v : ℕ) → (v ≡ 0x27 → ⊥) → (v ≡ 0x22 → ⊥) → (v ≡ 0x6e → ⊥) → (v ≡ 0x72 → ⊥) → (v ≡ 0x74 → ⊥) → (v ≡ 0x5c → ⊥) → (v ≡ 0x30 → ⊥) → (v ≡ 0x24 → ⊥) → (v ≡ 0x60 → ⊥) → short_of v ≡ 0xff
unfolding short_of
no_short v a b c d e f g h i =
    rw (ne_eqb v 0x27 a, ne_eqb v 0x22 b, ne_eqb v 0x6e c, ne_eqb v 0x72 d, ne_eqb v 0x74 e, ne_eqb v 0x5c f, ne_eqb v 0x30 g, ne_eqb v 0x24 h, ne_eqb v 0x60 i)

-- nothing in the table is 0 in seven bits
pub short_some : (v : ℕ) → 1 ≤ short_of v % 128
unfolding short_of
short_some v =
    let Some : ℕ → Type 0 = λ x. 1 ≤ x % 128 in
    pick_of Some (eqb v 0x27) _ _ (omega arith)
    (pick_of Some (eqb v 0x22) _ _ (omega arith)
    (pick_of Some (eqb v 0x6e) _ _ (omega arith)
    (pick_of Some (eqb v 0x72) _ _ (omega arith)
    (pick_of Some (eqb v 0x74) _ _ (omega arith)
    (pick_of Some (eqb v 0x5c) _ _ (omega arith)
    (pick_of Some (eqb v 0x30) _ _ (omega arith)
    (pick_of Some (eqb v 0x24) _ _ (omega arith)
    (pick_of Some (eqb v 0x60) _ _ (omega arith) (omega arith)))))))))

limit_most : (m : Bool) → limit_of m ≤ 0xff
limit_most true = omega arith
limit_most false = omega arith

module _ (v p x : ℕ) (cs : List ℕ) (q : x ≡ short_of v) (m : Bool) (l : x < limit_of m) where
  -- the table's rows, by the byte that v is: the seven that all forms have, then the two of templates, then none
  rows : (go : ℕ → Escape)
      → go 0x27 ≡ Item 0x27 p → go 0x22 ≡ Item 0x22 p → go 0x6e ≡ Item 0x0a p → go 0x72 ≡ Item 0x0d p → go 0x74 ≡ Item 0x09 p → go 0x5c ≡ Item 0x5c p → go 0x30 ≡ Item 0x00 p
      → (m ≡ true → go 0x24 ≡ Item 0x24 p) → (m ≡ true → go 0x60 ≡ Item 0x60 p) → go v ≡ Item (item_in x) p
  unfolding short_of
  rows go a b c d e f g i j =
      split_eq v 0x27 (λ h. row 0x27 h a)
      (λ h1. split_eq v 0x22 (λ h. row 0x22 h b)
      (λ h2. split_eq v 0x6e (λ h. row 0x6e h c)
      (λ h3. split_eq v 0x72 (λ h. row 0x72 h d)
      (λ h4. split_eq v 0x74 (λ h. row 0x74 h e)
      (λ h5. split_eq v 0x5c (λ h. row 0x5c h f)
      (λ h6. split_eq v 0x30 (λ h. row 0x30 h g)
      (λ h7. split_eq v 0x24 (λ h. split m (λ t. row 0x24 h (i t)) (λ t. absurd (few t (ap short_of h) (omega arith))))
      (λ h8. split_eq v 0x60 (λ h. split m (λ t. row 0x60 h (j t)) (λ t. absurd (few t (ap short_of h) (omega arith))))
      (λ h9. absurd (omega (arith, no_short v h1 h2 h3 h4 h5 h6 h7 h8 h9, limit_most m)))))))))))
    where
      row : (k : ℕ) → v ≡ k → go k ≡ Item (item_in (short_of k)) p → go v ≡ Item (item_in x) p
      row k h r = ap go h ∙ r ∙ ap (λ (z : ℕ). Item (item_in z) p) (sym (q ∙ ap short_of h))

      few : {y : ℕ} → m ≡ false → short_of v ≡ y → 0x80 ≤ y → ⊥
      few t h w = let z = ap limit_of t in omega arith

  short_byte : (lines : Bool) → m ≡ false → byte_turn lines v cs p ≡ Item (item_in x) p
  unfolding byte_turn shared_of
  short_byte lines h = rows (λ k. byte_turn lines k cs p) refl refl refl refl refl refl refl (λ t. never (cc)) (λ t. never (cc))

  short_char : (lines : Bool) → char_turn m lines v cs p ≡ Item (item_in x) p
  unfolding char_turn shared_of
  short_char lines = rows (λ k. char_turn m lines k cs p) refl refl refl refl refl refl refl (λ t. rw t) (λ t. rw t)

short_item : (form : Form) (v x : ℕ) (cs : List ℕ) (p : ℕ) → x ≡ short_of v → x < limit_of (is_template form) → Item (item_in x) (p + width v) ≡ item_of form 0x5c (v ∷ cs) p
unfolding item_of byte_escape char_escape
short_item Text v x cs p q l = sym (short_char v (p + width v) x cs q false l true)
short_item Template v x cs p q l = sym (short_char v (p + width v) x cs q true l true)
short_item Char v x cs p q l = sym (short_char v (p + width v) x cs q false l false)
short_item ByteText v x cs p q l = sym (short_byte v (p + width v) x cs q false l true refl)
short_item Byte v x cs p q l = sym (short_byte v (p + width v) x cs q false l false refl)

module _ (s : List ℕ) (at : ℕ) where
  pub escaped_other : (get_or s at 0 ≡ 0x5c → ⊥) → 0 ≡ escaped_at s at
  unfolding escaped_at
  escaped_other h = rw (ne_eqb (get_or s at 0) 0x5c h)

  pub escaped_end : length s ≤ at → 0 ≡ escaped_at s at
  escaped_end h = escaped_other (λ e. omega (arith, get_or-eq_default s 0 h))

  pub escaped_here : get_or s at 0 ≡ 0x5c → get_or s (at + 1) 0 ≡ escaped_at s at
  unfolding escaped_at
  escaped_here h = rw (eq-eqb (get_or s at 0) 0x5c h)

  -- a byte that is found there is ASCII or not, and both stand in the list
  pub escaped_inv : (v : ℕ) → v ≡ escaped_at s at → (v ≡ 0 → ⊥) → (get_or s at 0 ≡ 0x5c) × (v ≡ get_or s (at + 1) 0) × (at + 1 < length s)
  escaped_inv v q h =
      split_eq (get_or s at 0) 0x5c
      (λ e.
      let f = q ∙ sym (escaped_here e) in
      (e, f, split_le (length s) (at + 1) (λ l. absurd (h (f ∙ get_or-eq_default s 0 l))) (λ l. l)))
      (λ e. absurd (h (q ∙ sym (escaped_other e))))

-- no byte above 0x7f is in the table, nor 0
short_low : (v : ℕ) → short_of v < 0xff → (v ≤ 0x7f) × (v ≡ 0 → ⊥)
short_low v h = (
  split_le v 0x7f (λ l. l)
      (λ l. absurd (let z = no_short v (λ e. omega arith) (λ e. omega arith) (λ e. omega arith) (λ e. omega arith) (λ e. omega arith) (λ e. omega arith) (λ e. omega arith) (λ e. omega arith) (λ e. omega arith) in omega arith)),
  λ k. let z = no_short v (λ e. omega arith) (λ e. omega arith) (λ e. omega arith) (λ e. omega arith) (λ e. omega arith) (λ e. omega arith) (λ e. omega arith) (λ e. omega arith) (λ e. omega arith) in omega arith,
)

-- at a place of a source: a backslash, and the item that begins there
pub record Short (form : Form) (s : List ℕ) (p x n : ℕ) : Type 0 where
  pub step : Step s p 0x5c (p + 1)
  pub item : Item x n ≡ item_of form 0x5c (rest s (p + 1)) (p + 1)

pub short_here : (form : Form) (s : List ℕ) (p v x : ℕ) → v ≡ escaped_at s p → x ≡ short_of v → x < limit_of (is_template form) → Short form s p (item_in x) (p + 2)
short_here form s p v x q r l =
    let low = short_low v (omega (arith, limit_most (is_template form))) in
    let e = escaped_inv s p v q low.1 in
    let w : get_or s (p + 1) 0 ≤ 0x7f = omega (arith, low.0, e.1) in
    let second = step_ascii s (p + 1) e.2 w in
    let two : p + 1 + width (get_or s (p + 1) 0) ≡ p + 2 = omega (arith, second.next) in
    record {
      step = subst (λ (k : ℕ). Step s p k (p + 1)) e.0 (step_ascii s p (omega (arith, e.2)) (omega (arith, e.0)));
      item = ap (Item (item_in x)) (sym two) ∙ short_item form (get_or s (p + 1) 0) x (rest s (p + 1 + 1)) (p + 1) (r ∙ ap short_of e.1) l
          ∙ ap (λ (cs : List ℕ). item_of form 0x5c cs (p + 1)) (sym second.here);
    }
