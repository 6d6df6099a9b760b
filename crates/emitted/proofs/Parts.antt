-- Numbers that are kept and the words of a front part. Assumes nothing.
use Prim.Native.Nat.{ℕ, zero, suc, ◌+◌, ◌*◌, ◌≤◌}
use mathlib.Core.Path.{◌≡◌, refl, sym, ap, ap₂, ◌∙◌}
use mathlib.Core.List.{List, [], ◌∷◌, ◌++◌}
use mathlib.Core.Bool.{Bool, true, false, not}
use native.Mathlib.Omega.{arith}
use lib.Seq.{drop-cons}
use lib.ListN.{drop, get_or, length, take}
use Rattle.emitted.proofs.Slots.{range}
use Rattle.emitted.proofs.Weave.{kept_all, kept_from, words_all}
use Rattle.emitted.specs.Sequence.{front_part, without}
use Rattle.laws.proofs.Cases.{never, split}
use Rattle.laws.specs.Bools.{either}
use Rattle.looks.specs.Numbered.{is_white, kind_at, token_at}

-- what stands in front of a row of kept numbers is one itself
pub record Fewer (keep : Bool) (l xs : List ℕ) (i n : ℕ) : Type 0 where
  pub count : ℕ
  pub few : count ≤ n
  pub is : xs ≡ kept_from keep l i count

module _ (keep : Bool) (l : List ℕ) where
  pub kept_front : (n i : ℕ) (xs ys : List ℕ) → xs ++ ys ≡ kept_from keep l i n → Fewer keep l xs i n
  unfolding kept_from
  kept_front n i [] ys e = record { count = 0; few = omega arith; is = refl }
  kept_front zero i (x ∷ xs) ys e = never (let k = ap length e in omega arith)
  kept_front (suc n) i (x ∷ xs) ys e =
      split (either keep (not (is_white (kind_at l i))))
      (λ t.
      let f : x ∷ (xs ++ ys) ≡ i ∷ kept_from keep l (i + 1) n = rw t at e in
      let r = kept_front n (i + 1) xs ys (ap (drop 1) f) in
      let few = r.few in
      record { count = suc r.count; few = omega arith; is = rw t (ap₂ (λ (y : ℕ) (s : List ℕ). y ∷ s) (ap (λ (s : List ℕ). get_or s 0 0) f) r.is) })
      (λ t.
      let r = kept_front n (i + 1) (x ∷ xs) ys (rw t at e) in
      let few = r.few in
      record { count = suc r.count; few = omega arith; is = rw t r.is })

module _ (l : List ℕ) where
  -- a token's words where they stand
  token_words_law : (i : ℕ) → i * 3 + 3 ≤ length l → drop (i * 3) l ≡ token_at l i ++ drop ((i + 1) * 3) l
  token_words_law i h =
      let e : (i + 1) * 3 ≡ suc (suc (suc (i * 3))) = omega arith in
      let f : i * 3 + 1 ≡ suc (i * 3) = omega arith in
      let g : i * 3 + 2 ≡ suc (suc (i * 3)) = omega arith in
      drop-cons l (i * 3) 0 (omega arith)
      ∙ ap (λ (s : List ℕ). kind_at l i ∷ s) (drop-cons l (suc (i * 3)) 0 (omega arith))
      ∙ ap (λ (s : List ℕ). kind_at l i ∷ get_or l (suc (i * 3)) 0 ∷ s) (drop-cons l (suc (suc (i * 3))) 0 (omega arith))
      ∙ sym (rw (e, f, g))

  range_words : (n i : ℕ) → (i + n) * 3 ≤ length l → words_all l (range i n) ≡ take (n * 3) (drop (i * 3) l)
  unfolding words_all range
  range_words zero i h = refl
  range_words (suc n) i h =
      let e : suc n * 3 ≡ suc (suc (suc (n * 3))) = omega arith in
      sym (ap₂ take e (token_words_law i (omega arith)) ∙ ap (λ (s : List ℕ). token_at l i ++ s) (sym (range_words n (i + 1) (omega arith))))

  dark_words : (n i : ℕ) → words_all l (kept_from false l i n) ≡ without is_white (words_all l (range i n))
  unfolding words_all range kept_from without
  dark_words zero i = refl
  dark_words (suc n) i =
      split (is_white (kind_at l i))
      (λ t. rw t (dark_words n (i + 1)))
      (λ t. rw t (ap (λ (s : List ℕ). token_at l i ++ s) (dark_words n (i + 1))))

  pub kept_words : (keep : Bool) (n : ℕ) → n * 3 ≤ length l → words_all l (kept_from keep l 0 n) ≡ front_part keep l n
  kept_words true n h = ap (words_all l) (kept_all l n 0) ∙ range_words n 0 (omega arith)
  kept_words false n h = dark_words n 0 ∙ ap (without is_white) (range_words n 0 (omega arith))
