-- Runs byte by byte, as the loops find them, and scalar by scalar. Assumes nothing.
use Prim.Native.Nat.{ℕ, ◌+◌, ◌-◌, ◌/◌, ◌≤◌, ◌<◌}
use mathlib.Core.Path.{◌≡◌, sym, ap, ap₂, ◌∙◌}
use mathlib.Core.List.{List, [], ◌∷◌, ◌++◌}
use mathlib.Core.Bool.{true}
use native.Mathlib.Omega.{arith}
use native.Mathlib.Numerals.{add-one}
use lib.Dec.{leb}
use lib.Seq.{drop-cons, drop-drop}
use lib.ListN.{drop, drop_of_length-le, get_or, length, take-append-drop}
use borrow.Author.Tests.{eq-eqb, le-leb, lt-leb, ne_eqb}
use Rattle.encoding.proofs.Round.{step_bytes, step_is_scalar}
use Rattle.encoding.proofs.Rows.{by_row, encode_1, encode_2, encode_3, encode_4}
use Rattle.encoding.specs.Encode.{encode_of, is_scalar, tail_of}
use Rattle.laws.proofs.Cases.{split, split_le}
use Rattle.runs.specs.Runs.{ascii_of, bare_of}
use Rattle.text.proofs.Decode.{Step}

-- what stands at a place, where a backslash or the end does and where not
module _ (s : List ℕ) (p : ℕ) where
  pub bare_end : length s ≤ p → bare_of (drop p s) ≡ []
  unfolding bare_of
  bare_end h = rw (drop_of_length-le s h)

  pub bare_stop : p < length s → get_or s p 0 ≡ 0x5c → bare_of (drop p s) ≡ []
  unfolding bare_of
  bare_stop h e = rw (drop-cons s p 0 h) (rw (eq-eqb (get_or s p 0) 0x5c e, bare_of))

  pub bare_next : p < length s → (get_or s p 0 ≡ 0x5c → ⊥) → bare_of (drop p s) ≡ get_or s p 0 ∷ bare_of (drop (p + 1) s)
  unfolding bare_of
  bare_next h e = rw (add-one p, drop-cons s p 0 h) (rw (ne_eqb (get_or s p 0) 0x5c e, bare_of))

  -- a byte of a run stands in the list, and is no backslash
  pub bare_more : 0 < length (bare_of (drop p s)) → (p < length s) × (get_or s p 0 ≡ 0x5c → ⊥)
  bare_more h =
      split_le (length s) p (λ l. absurd (omega (arith, ap length (bare_end l))))
      (λ l. (l, λ e. omega (arith, ap length (bare_stop l e))))

module _ (b : ℕ) (l : List ℕ) where
  pub low_next : b ≤ 0x7f → ascii_of (b ∷ l) ≡ b ∷ ascii_of l
  unfolding ascii_of
  low_next h = rw (le-leb b 0x7f h, ascii_of)

  pub low_stop : 0x7f < b → ascii_of (b ∷ l) ≡ []
  unfolding ascii_of
  low_stop h = rw (lt-leb b 0x7f h, ascii_of)

  bare_high : 0x7f < b → bare_of (b ∷ l) ≡ b ∷ bare_of l
  unfolding bare_of
  bare_high h = rw (ne_eqb b 0x5c (λ e. omega arith), bare_of)

pub low_few : (l : List ℕ) → length (ascii_of l) ≤ length l
unfolding ascii_of
low_few [] = omega arith
low_few (b ∷ l) = split (leb b 0x7f) (λ e. rw (e, ascii_of) (omega (arith, low_few l))) (λ e. rw (e, ascii_of) (omega arith))

-- at a byte of a run
module _ (s : List ℕ) (p : ℕ) (h : 0 < length (bare_of (drop p s))) where
  pub bare_cons : bare_of (drop p s) ≡ get_or s p 0 ∷ bare_of (drop (p + 1) s)
  bare_cons = let m = bare_more s p h in bare_next s p m.0 m.1

  pub low_here : get_or s p 0 ≤ 0x7f → ascii_of (bare_of (drop p s)) ≡ get_or s p 0 ∷ ascii_of (bare_of (drop (p + 1) s))
  low_here l = ap ascii_of bare_cons ∙ low_next (get_or s p 0) (bare_of (drop (p + 1) s)) l

  pub high_here : 0x7f < get_or s p 0 → ascii_of (bare_of (drop p s)) ≡ []
  high_here l = ap ascii_of bare_cons ∙ low_stop (get_or s p 0) (bare_of (drop (p + 1) s)) l

  pub high_none : 0x7f < get_or s p 0 → length (ascii_of (bare_of (drop p s))) ≡ 0
  high_none l = ap length (high_here l)

-- the bytes of a scalar that is no backslash belong to a run, and no others do before what follows
bare_bytes : (v : ℕ) (t : List ℕ) → is_scalar v ≡ true → (v ≡ 0x5c → ⊥) → bare_of (encode_of v ++ t) ≡ encode_of v ++ bare_of t
unfolding bare_of
bare_bytes v t i k =
    by_row v
    (λ h. rw (encode_1 v h) (rw (ne_eqb v 0x5c k, bare_of)))
    (λ h l. rw (encode_2 v h l) (rw (bare_high (0xc0 + v / 64) (tail_of v ∷ t) (omega arith), bare_high (tail_of v) t (omega arith))))
    (λ h l. rw (encode_3 v h l i)
    (rw (bare_high (0xe0 + v / 4096) (tail_of (v / 64) ∷ tail_of v ∷ t) (omega arith), bare_high (tail_of (v / 64)) (tail_of v ∷ t) (omega arith), bare_high (tail_of v) t (omega arith))))
    (λ h. rw (encode_4 v h i)
    (rw (bare_high (0xf0 + v / 262144) (tail_of (v / 4096) ∷ tail_of (v / 64) ∷ tail_of v ∷ t) (omega arith), bare_high (tail_of (v / 4096)) (tail_of (v / 64) ∷ tail_of v ∷ t) (omega arith), bare_high (tail_of (v / 64)) (tail_of v ∷ t) (omega arith), bare_high (tail_of v) t (omega arith))))

module _ (s : List ℕ) (p v n : ℕ) (t : Step s p v n) where
  front : drop p s ≡ encode_of v ++ drop n s
  front =
      let a = t.past in
      let k : p + (n - p) ≡ n = omega arith in
      sym (take-append-drop (n - p) (drop p s))
      ∙ ap₂ (λ (x y : List ℕ). x ++ y) (sym (step_bytes s p v n t)) (drop-drop (n - p) p s ∙ ap (λ (j : ℕ). drop j s) k)

  pub bare_scalar : (v ≡ 0x5c → ⊥) → bare_of (drop p s) ≡ encode_of v ++ bare_of (drop n s)
  bare_scalar h = ap bare_of front ∙ bare_bytes v (drop n s) (step_is_scalar s p v n t) h

  pub bare_backslash : v ≡ 0x5c → bare_of (drop p s) ≡ []
  unfolding bare_of
  bare_backslash h = ap bare_of (front ∙ ap (λ (x : List ℕ). x ++ drop n s) (ap encode_of h ∙ encode_1 0x5c (omega arith)))
