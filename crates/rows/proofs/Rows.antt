-- Rows at a place of a list: one turn of the walks that check, write and read them. Assumes nothing.
use Rattle.std.specs.Prelude.{Err, Ok}
use Rattle.token.specs.declared.reason.Reason.TheVariants.{BadKind, BadLength, Gap}
use Prim.Native.Nat.{ℕ, zero, suc, ◌+◌, ◌/◌, ◌%◌, ◌≤◌, ◌<◌}
use mathlib.Core.Path.{◌≡◌, refl, sym, ap, ◌∙◌}
use mathlib.Core.List.{List, [], ◌∷◌, map}
use native.Mathlib.Omega.{arith}
use lib.Seq.{drop-cons}
use Rattle.std.proofs.lemmas.List.{get_or-take}
use Rattle.std.specs.Simd.{first_chunks}
use lib.ListN.{drop, drop_of_length-le, get_or, length, take}
use borrow.Author.Tests.{eq-eqb, le-ltb, lt-ltb, ne_eqb}
use Rattle.laws.proofs.Cases.{both_false, never, split_eq, within_high, within_low, within_yes}
use Rattle.rows.specs.Rows.{Row, and_then, list_check, list_rows, record_check, row_check, rows_check, rows_of, word_row}
use Rattle.token.specs.Reads.{point_refusal, Tested}
use Rattle.token.specs.declared.read.Refusal.{Refusal}

pub drop_one : (rs : List (List ℕ)) (n : ℕ) → n < length rs → drop n rs ≡ get_or rs n [] ∷ drop (n + 1) rs
drop_one rs n h =
    let z : suc n ≡ n + 1 = omega arith in
    drop-cons rs n [] h ∙ ap (λ (k : ℕ). get_or rs n [] ∷ drop k rs) z

-- a row that is made of the first `size` elements alone
abbrev pub Local : (List ℕ → Row) → ℕ → Type 0
Local row size = (s : List ℕ) → row (take size s) ≡ row s

pub word_local : Local word_row 3
word_local s = rw (get_or-take 3 s 0 0 (omega arith), get_or-take 3 s 1 0 (omega arith), get_or-take 3 s 2 0 (omega arith))

-- .. so the rows are those of the list cut into arrays
pub chunk_rows : (row : List ℕ → Row) (size : ℕ) → Local row size → (k : ℕ) (s : List ℕ) → map row (first_chunks size k s) ≡ rows_of row size k s
unfolding rows_of
chunk_rows row size h zero s = refl
chunk_rows row size h (suc k) s = λ i. h s i ∷ chunk_rows row size h k (drop size s) i

-- what is left of the check, from the array n on, gives the answer
abbrev pub LeftOf : (List ℕ → Row) → List (List ℕ) → ℕ → ℕ → Type 0
LeftOf row rs n last = rows_check n last (map row (drop n rs)) ≡ rows_check 0 0 (map row rs)

module _ (row : List ℕ → Row) (rs : List (List ℕ)) (n last : ℕ) (w : LeftOf row rs n last) where
  pub left_end : length rs ≤ n → Ok tt ≡ rows_check 0 0 (map row rs)
  unfolding rows_check
  left_end h = sym (ap (λ (l : List (List ℕ)). rows_check n last (map row l)) (drop_of_length-le rs h)) ∙ w

  module _ (h : n < length rs) where
    left_one : and_then (row_check n last (row (get_or rs n []))) (rows_check (n + 1) (row (get_or rs n [])).end (map row (drop (n + 1) rs))) ≡ rows_check 0 0 (map row rs)
    unfolding rows_check
    left_one = sym (ap (λ (l : List (List ℕ)). rows_check n last (map row l)) (drop_one rs n h)) ∙ w

    pub left_stop : (r : Refusal) → Err r ≡ row_check n last (row (get_or rs n [])) → Err r ≡ rows_check 0 0 (map row rs)
    left_stop r e = ap (λ (y : Tested). and_then y (rows_check (n + 1) (row (get_or rs n [])).end (map row (drop (n + 1) rs)))) e ∙ left_one

    pub left_more : Ok tt ≡ row_check n last (row (get_or rs n [])) → LeftOf row rs (n + 1) (row (get_or rs n [])).end
    left_more e = ap (λ (y : Tested). and_then y (rows_check (n + 1) (row (get_or rs n [])).end (map row (drop (n + 1) rs)))) e ∙ left_one

-- the length test before the walk
pub list_refused : (l : List ℕ) → (length l % 3 ≡ 0 → ⊥) → Err (point_refusal BadLength 0) ≡ list_check l
unfolding list_check
list_refused l h = rw (ne_eqb (length l % 3) 0 h)

pub list_checked : (l : List ℕ) → length l % 3 ≡ 0 → rows_check 0 0 (list_rows l) ≡ list_check l
unfolding list_check
list_checked l h = rw (eq-eqb (length l % 3) 0 h)

pub list_chunked : (l : List ℕ) → length l % 3 ≡ 0 → rows_check 0 0 (map word_row (first_chunks 3 (length l / 3) l)) ≡ list_check l
list_chunked l h = ap (rows_check 0 0) (chunk_rows word_row 3 word_local (length l / 3) l) ∙ list_checked l h

-- what is accepted is whole, and sound row by row
pub list_sound : (l : List ℕ) → list_check l ≡ Ok tt → (length l % 3 ≡ 0) × (rows_check 0 0 (list_rows l) ≡ Ok tt)
list_sound l h = split_eq (length l % 3) 0 (λ e. (e, list_checked l e ∙ h)) (λ e. never (let z = list_refused l e in cc))

-- a record by the tests of the code
module _ (n last kind start end : ℕ) where
  pub record_low : kind < 1 → Err (point_refusal BadKind n) ≡ record_check n last kind start end
  unfolding record_check
  record_low h = rw (within_low 1 66 kind h)

  pub record_high : 66 < kind → Err (point_refusal BadKind n) ≡ record_check n last kind start end
  unfolding record_check
  record_high h = rw (within_high 1 66 kind h)

  module _ (l : 1 ≤ kind) (h : kind ≤ 66) where
    pub record_gap : (start ≡ last → ⊥) → Err (point_refusal Gap n) ≡ record_check n last kind start end
    unfolding record_check
    record_gap g = rw (within_yes 1 66 kind l h, ne_eqb start last g)

    pub record_empty : end ≤ start → Err (point_refusal Gap n) ≡ record_check n last kind start end
    unfolding record_check
    record_empty g = rw (within_yes 1 66 kind l h, le-ltb start end g, both_false)

    pub record_sound : start ≡ last → start < end → (Ok tt) ≡ record_check n last kind start end
    unfolding record_check
    record_sound g e = rw (within_yes 1 66 kind l h, eq-eqb start last g, lt-ltb start end e)

-- one more token in front of an accepted list
pub list_cons : (n last kind start end : ℕ) (l : List ℕ) → 1 ≤ kind → kind ≤ 66 → start ≡ last → start < end
    → rows_check (n + 1) end (list_rows l) ≡ Ok tt → rows_check n last (list_rows (kind ∷ start ∷ end ∷ l)) ≡ Ok tt
unfolding rows_of rows_check
list_cons n last kind start end l low high e past h =
    let m : suc (suc (suc (length l))) / 3 ≡ suc (length l / 3) = omega arith in
    ap (λ (k : ℕ). rows_check n last (rows_of word_row 3 k (kind ∷ start ∷ end ∷ l))) m
    ∙ ap (λ (c : Tested). and_then c (rows_check (n + 1) end (list_rows l))) (sym (record_sound n last kind start end low high e past)) ∙ h
