-- Steps of writing tokens to the front of a store. Assumes nothing.
use Prim.Native.Nat.{ℕ, zero, suc, ◌+◌, ◌-◌, ◌*◌, ◌%◌, ◌≤◌, ◌<◌}
use mathlib.Core.Path.{◌≡◌, refl, sym, ap, ◌∙◌}
use mathlib.Core.List.{List, ◌++◌}
use native.Mathlib.Omega.{arith}
use lib.Seq.{length-sets, sets}
use lib.ListN.{get_or, length}
use Rattle.laws.proofs.Sets.{sets_append}
use Rattle.looks.specs.Front.{wait_words}
use Rattle.looks.specs.Numbered.{token_at}

pub wait_length : (n : ℕ) (l ring : List ℕ) (at : ℕ) → length (wait_words n l ring at) ≡ n * 3
unfolding wait_words
wait_length zero l ring at = refl
wait_length (suc n) l ring at = let h = wait_length n l ring (at + 1) in omega arith

-- the tokens so far: what is left of them, after what is written, gives the whole
pub record Puts (l ring out₀ out : List ℕ) (from count at i : ℕ) : Type 0 where
  pub same : length out ≡ length out₀
  pub stores : sets out (at + i * 3) (wait_words (count - i) l ring (from + i)) ≡ sets out₀ at (wait_words count l ring from)

module _ (l ring out₀ : List ℕ) (from count at : ℕ) where
  module _ (out : List ℕ) (i : ℕ) (w : Puts l ring out₀ out from count at i) where
    pub puts_end : count ≤ i → out ≡ sets out₀ at (wait_words count l ring from)
    unfolding wait_words
    puts_end h =
        let e : count - i ≡ 0 = omega arith in
        sym (ap (λ (n : ℕ). sets out (at + i * 3) (wait_words n l ring (from + i))) e) ∙ w.stores

    wait_more : i < count → wait_words (count - i) l ring (from + i) ≡ token_at l (get_or ring ((from + i) % 256) 0) ++ wait_words (count - (i + 1)) l ring (from + (i + 1))
    unfolding wait_words
    wait_more h =
        let e : count - i ≡ suc (count - (i + 1)) = omega arith in
        let f : from + i + 1 ≡ from + (i + 1) = omega arith in
        ap (λ (n : ℕ). wait_words n l ring (from + i)) e
        ∙ ap (λ (s : ℕ). token_at l (get_or ring ((from + i) % 256) 0) ++ wait_words (count - (i + 1)) l ring s) f

    pub puts_more : i < count → (out₁ : List ℕ) → out₁ ≡ sets out (at + i * 3) (token_at l (get_or ring ((from + i) % 256) 0)) → Puts l ring out₀ out₁ from count at (i + 1)
    puts_more h out₁ e =
        let t = token_at l (get_or ring ((from + i) % 256) 0) in
        let rest = wait_words (count - (i + 1)) l ring (from + (i + 1)) in
        record {
          same = ap length e ∙ length-sets out (at + i * 3) t ∙ w.same;
          stores =
              ap (λ (o : List ℕ). sets o (at + (i + 1) * 3) rest) e
              ∙ sets_append out t rest (at + i * 3) (at + (i + 1) * 3) (omega arith)
              ∙ sym (ap (sets out (at + i * 3)) (wait_more h)) ∙ w.stores;
        }
