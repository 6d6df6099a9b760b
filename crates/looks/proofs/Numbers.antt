-- Steps of the reads by number: how many tokens there are, and where the next one stands that is no white space. Assumes nothing.
use Prim.Native.Nat.{ℕ, zero, suc, ◌+◌, ◌-◌, ◌*◌, ◌/◌, ◌≤◌, ◌<◌}
use mathlib.Core.Path.{◌≡◌, refl, ap, ◌∙◌}
use mathlib.Core.List.{List}
use mathlib.Core.Bool.{true, false}
use native.Mathlib.Omega.{arith}
use lib.ListN.{length}
use Rattle.std.specs.Prelude.{OkIff, Result, Ok, Err}
use Rattle.std.specs.Result.{result_unwrap_or}
use borrow.Author.Tests.{eq-eqb, le-leb, lt-leb, ne_eqb}
use Rattle.laws.proofs.Cases.{split, split_le}
use Rattle.looks.specs.Numbered.{dark, dark_from, end_at, is_white, kind_at, list_end, token_count}

module _ (l : List ℕ) where
  pub count_whole : length l / 3 ≤ 4294967295 → length l / 3 ≡ token_count l
  unfolding token_count
  count_whole h = rw (le-leb _ _ h)

  pub count_cut : 4294967295 < length l / 3 → 4294967295 ≡ token_count l
  unfolding token_count
  count_cut h = rw (lt-leb _ _ h)

  pub count_tried : {E : Type 0} (r : Result ℕ E) → OkIff r (length l / 3 < 4294967296) (length l / 3) → result_unwrap_or r 4294967295 ≡ token_count l
  count_tried (Ok x) h = let few = h.0 in h.1 ∙ count_whole (omega arith)
  count_tried (Err e) h = split_le (length l / 3) 4294967295 (λ s. absurd (h (omega arith))) (λ s. count_cut s)

  pub count_bound : (token_count l ≤ 4294967295) × (token_count l * 3 ≤ length l)
  unfolding token_count
  count_bound =
      split_le (length l / 3) 4294967295
      (λ h. let e = le-leb _ _ h in rw e (h, omega arith))
      (λ h. let e = lt-leb _ _ h in rw e (omega arith, omega arith))

  pub end_none : token_count l ≡ 0 → 0 ≡ list_end l
  unfolding list_end
  end_none h = rw (eq-eqb (token_count l) 0 h)

  pub end_last : (token_count l ≡ 0 → ⊥) → end_at l (token_count l - 1) ≡ list_end l
  unfolding list_end
  end_last h = rw (ne_eqb (token_count l) 0 h)

  module _ (i : ℕ) where
    dark_left : (n m : ℕ) → n ≡ m → dark_from n l i ≡ dark_from m l i
    dark_left n m e = ap (λ (k : ℕ). dark_from k l i) e

    dark_stop : (n : ℕ) → is_white (kind_at l i) ≡ false → dark_from n l i ≡ i
    unfolding dark_from
    dark_stop zero h = refl
    dark_stop (suc n) h = rw h

    pub dark_here : is_white (kind_at l i) ≡ false → dark l i ≡ i
    dark_here h = dark_stop (token_count l - i) h

    pub dark_end : token_count l ≤ i → dark l i ≡ i
    unfolding dark_from
    dark_end h = dark_left (token_count l - i) 0 (omega arith)

    pub dark_white : i < token_count l → is_white (kind_at l i) ≡ true → dark l i ≡ dark l (i + 1)
    unfolding dark_from
    dark_white h w = dark_left (token_count l - i) (suc (token_count l - (i + 1))) (omega arith) ∙ rw w

  dark_reach : (n i : ℕ) → (i ≤ dark_from n l i) × (dark_from n l i ≤ i + n)
  unfolding dark_from
  dark_reach zero i = (omega arith, omega arith)
  dark_reach (suc n) i =
      split (is_white (kind_at l i))
      (λ w. let h = dark_reach n (i + 1) in rw w (omega arith, omega arith))
      (λ w. rw w (omega arith, omega arith))

  -- the place lies past i, and not past the list's end unless i does
  pub dark_bound : (i : ℕ) → i ≤ token_count l → (i ≤ dark l i) × (dark l i ≤ token_count l)
  dark_bound i h = let r = dark_reach (token_count l - i) i in (r.0, omega arith)
