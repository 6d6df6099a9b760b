-- What is counted before a place grows with it; where no LF stands between two places they have one line. Assumes nothing.
use Prim.Native.Nat.{ℕ, zero, suc, ◌+◌, ◌-◌, ◌≤◌}
use mathlib.Core.Path.{◌≡◌, refl, sym, ap, ◌∙◌}
use mathlib.Core.List.{List, ◌∷◌}
use mathlib.Core.Bool.{Bool, cond, true, false}
use native.Mathlib.Omega.{arith}
use native.Mathlib.Numerals.{add-one}
use lib.ListN.{get_or, length}
use Rattle.std.specs.List.{filter, range_with_len}
use Rattle.laws.proofs.Cases.{never, split, split_le}
use Rattle.laws.specs.Bools.{pick}
use Rattle.places.specs.Lines.{Stands, begins, column_of, count_in, count_to, is_feed, line_number, start_of}
use Rattle.places.specs.declared.line.Place.{Place}

pub count_one : (b : Bool) → pick b 1 0 ≤ 1
count_one true = omega arith
count_one false = omega arith

pub count_step : (f : ℕ → Bool) (s : List ℕ) (n : ℕ) → count_to f s (n + 1) ≡ pick (f (get_or s n 0)) 1 0 + count_to f s n
unfolding count_to
count_step f s n = ap (count_to f s) (add-one n)

pub count_most : (f : ℕ → Bool) (s : List ℕ) (n : ℕ) → count_to f s n ≤ n
unfolding count_to
count_most f s zero = omega arith
count_most f s (suc n) = omega (arith, count_most f s n, count_one (f (get_or s n 0)))

pub count_more : (f : ℕ → Bool) (s : List ℕ) (m n : ℕ) → m ≤ n → count_to f s m ≤ count_to f s n
unfolding count_to
count_more f s zero zero h = omega arith
count_more f s (suc m) zero h = omega arith
count_more f s m (suc n) h =
    split_le m n (λ l. omega (arith, count_more f s m n l)) (λ l. let e : m ≡ suc n = omega arith in omega (arith, ap (count_to f s) e))

pub start_most : (s : List ℕ) (n : ℕ) → start_of s n ≤ n
unfolding start_of
start_most s zero = omega arith
start_most s (suc n) =
    split (is_feed (get_or s n 0))
    (λ e. omega (arith, ap (λ (b : Bool). pick b (suc n) (start_of s n)) e))
    (λ e. omega (arith, ap (λ (b : Bool). pick b (suc n) (start_of s n)) e, start_most s n))

-- no LF from the one to before the other
pub start_same : (s : List ℕ) (m n : ℕ) → m ≤ n → count_to is_feed s n ≡ count_to is_feed s m → start_of s n ≡ start_of s m
unfolding start_of count_to
start_same s zero zero h e = refl
start_same s (suc m) zero h e = never (omega arith)
start_same s m (suc n) h e =
    split_le m n
    (λ l.
    split (is_feed (get_or s n 0))
    (λ t. never (omega (arith, ap (λ (b : Bool). pick b 1 0 + count_to is_feed s n) t, count_more is_feed s m n l)))
    (λ t.
    ap (λ (b : Bool). pick b (suc n) (start_of s n)) t
    ∙ start_same s m n l (omega (arith, ap (λ (b : Bool). pick b 1 0 + count_to is_feed s n) t))))
    (λ l. let q : m ≡ suc n = omega arith in ap (start_of s) (sym q))

-- what is counted from one place to before another
module _ (f : ℕ → Bool) (s : List ℕ) (first to : ℕ) (ordered : first ≤ to) where
  pub in_between : count_to f s first + count_in f s first to ≡ count_to f s to
  in_between = let e : first + (to - first) ≡ to = omega arith in omega (arith, ap (count_to f s) e, count_more f s first to ordered)

  pub in_most : count_in f s first to ≤ to
  in_most = omega (arith, in_between, count_most f s to)

kept : (b : Bool) (i : ℕ) (l : List ℕ) → length (cond b (i ∷ l) l) ≡ pick b 1 0 + length l
kept true i l = omega arith
kept false i l = omega arith

-- of so many places from one on, those whose bytes meet a test
counted : (f : ℕ → Bool) (s : List ℕ) (first n : ℕ) → count_to f s first + length (filter (λ i. f (get_or s i 0)) (range_with_len first n)) ≡ count_to f s (first + n)
counted f s first zero = let e : first ≡ first + 0 = omega arith in omega (arith, ap (count_to f s) e)
counted f s first (suc n) =
    let e : first + 1 + n ≡ first + suc n = omega arith in
    let k : length (filter (λ i. f (get_or s i 0)) (range_with_len first (suc n))) ≡ pick (f (get_or s first 0)) 1 0 + length (filter (λ i. f (get_or s i 0)) (range_with_len (first + 1) n)) =
    kept (f (get_or s first 0)) first (filter (λ i. f (get_or s i 0)) (range_with_len (first + 1) n)) in
    omega (arith, k, counted f s (first + 1) n, count_step f s first, ap (count_to f s) e)

pub filtered : (f : ℕ → Bool) (s : List ℕ) (first to : ℕ) → length (filter (λ i. f (get_or s i 0)) (range_with_len first (to - first))) ≡ count_in f s first to
filtered f s first to = omega (arith, counted f s first (to - first))

pub column_most : (s : List ℕ) (at : ℕ) → column_of s at ≤ 1 + at
column_most s at = omega (arith, in_most begins s (start_of s at) at (start_most s at))

pub line_on : (s : List ℕ) (at to : ℕ) → at ≤ to → line_number s at + count_in is_feed s at to ≡ line_number s to
line_on s at to h = omega (arith, in_between is_feed s at to h)

pub column_on : (s : List ℕ) (at to : ℕ) → at ≤ to → count_in is_feed s at to ≡ 0 → column_of s at + count_in begins s at to ≡ column_of s to
column_on s at to h none =
    let e : start_of s to ≡ start_of s at = start_same s at to h (omega (arith, in_between is_feed s at to h)) in
    omega (
      arith,
      ap (λ (n : ℕ). count_in begins s n to) e,
      in_between begins s (start_of s at) at (start_most s at),
      in_between begins s (start_of s at) to (omega (arith, start_most s at)),
      in_between begins s at to h,
    )

pub origin_stands : (s : List ℕ) (p : Place) → p.at ≡ 0 → p.line ≡ 1 → p.column ≡ 1 → Stands s p
unfolding count_to start_of
origin_stands s p at line column = record { line = line ∙ simp at; column = column ∙ simp at }
