-- A list that 34 does not refuse: its kinds, and how many tokens it has. Assumes nothing.
use Prim.Native.Nat.{ℕ, zero, suc, ◌+◌, ◌-◌, ◌*◌, ◌/◌, ◌%◌, ◌≤◌, ◌<◌}
use mathlib.Core.Path.{◌≡◌, ap}
use mathlib.Core.List.{List}
use mathlib.Core.Bool.{true, false}
use native.Mathlib.Omega.{arith}
use lib.Dec.{ltb, eqb}
use lib.Seq.{get_or-drop}
use lib.ListN.{drop, get_or, length}
use borrow.Author.Tests.{eqb-true, ltb-true}
use Rattle.emitted.proofs.Steps.{Real}
use Rattle.laws.proofs.Cases.{both_inv, never, split, split_eq, within_inv}
use Rattle.laws.specs.Bools.{both, within}
use Rattle.looks.proofs.Numbers.{count_bound, count_whole}
use Rattle.looks.specs.Numbered.{token_count}
use Rattle.looks.specs.Sound.{whole_by}
use Rattle.std.specs.Result.{is_ok}
use Rattle.rows.specs.Rows.{list_check, record_check, rows_check, rows_of, word_row}

-- a good first row, and good rows after it
row_first : (k n last : ℕ) (s : List ℕ) → is_ok (rows_check n last (rows_of word_row 3 (suc k) s)) ≡ true
    → (get_or s 0 0 ≤ 66) × (last < get_or s 2 0) × (is_ok (rows_check (n + 1) (get_or s 2 0) (rows_of word_row 3 k (drop 3 s))) ≡ true)
unfolding rows_check rows_of record_check
row_first k n last s h =
    split (within 1 66 (get_or s 0 0))
    (λ w.
    split (both (eqb (get_or s 1 0) last) (ltb (get_or s 1 0) (get_or s 2 0)))
    (λ b.
    let c = both_inv (eqb (get_or s 1 0) last) (ltb (get_or s 1 0) (get_or s 2 0)) b in
    let e = eqb-true (get_or s 1 0) last c.0 in
    let f = ltb-true (get_or s 1 0) (get_or s 2 0) c.1 in
    ((within_inv 1 66 (get_or s 0 0) w).1, omega arith, rw (w, b) at h))
    (λ b. never (let z : false ≡ true = rw (w, b) at h in cc)))
    (λ w. never (let z : false ≡ true = rw w at h in cc))

rows_real : (k n last : ℕ) (s : List ℕ) → is_ok (rows_check n last (rows_of word_row 3 k s)) ≡ true → (i : ℕ) → i < k → get_or s (i * 3) 0 ≤ 66
rows_real zero n last s h i b = absurd (omega arith)
rows_real (suc k) n last s h i b =
    let r = row_first k n last s h in
    split_eq i 0
    (λ z. let e : i * 3 ≡ 0 = omega arith in omega (arith, r.0, ap (λ (j : ℕ). get_or s j 0) e))
    (λ z.
    let more = rows_real k (n + 1) (get_or s 2 0) (drop 3 s) r.2 (i - 1) (omega (arith, z)) in
    let e : 3 + (i - 1) * 3 ≡ i * 3 = omega (arith, z) in
    omega (arith, more, get_or-drop 3 s ((i - 1) * 3) 0, ap (λ (j : ℕ). get_or s j 0) e))

-- each row ends past its start
rows_long : (k n last b : ℕ) (s : List ℕ) → is_ok (rows_check n last (rows_of word_row 3 k s)) ≡ true → last < b → ((i : ℕ) → get_or s i 0 < b) → last + k < b
rows_long zero n last b s h few all = omega arith
rows_long (suc k) n last b s h few all =
    let r = row_first k n last s h in
    let past = r.1 in
    let more = rows_long k (n + 1) (get_or s 2 0) b (drop 3 s) r.2 (all 2) (λ i. let e = get_or-drop 3 s i 0 in let f = all (3 + i) in omega arith) in
    omega arith

module _ (l : List ℕ) (w : whole_by l ≡ true) where
  whole_rows : is_ok (rows_check 0 0 (rows_of word_row 3 (length l / 3) l)) ≡ true
  unfolding whole_by list_check
  whole_rows = split (eqb (length l % 3) 0) (λ b. rw b at w) (λ b. never (let z : false ≡ true = rw b at w in cc))

  pub whole_real : Real l
  whole_real i h = let b = (count_bound l).1 in rows_real (length l / 3) 0 0 l whole_rows i (omega arith)

  -- the bound of `token_count` is none for such a list
  pub whole_count : ((i : ℕ) → get_or l i 0 < 4294967296) → length l / 3 ≡ token_count l
  whole_count all = let k = rows_long (length l / 3) 0 0 4294967296 l whole_rows (omega arith) all in count_whole l (omega arith)
