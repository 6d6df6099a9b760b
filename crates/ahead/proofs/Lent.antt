-- What is lent is told by its view, since its numbers are six. Assumes nothing.
use Prim.Native.Nat.{ℕ}
use mathlib.Core.Path.{◌≡◌, ap, ap₂}
use mathlib.Core.List.{List, [], ◌∷◌}
use native.Mathlib.Omega.{arith}
use lib.ListN.{length}
use Rattle.ahead.specs.View.{State, nums_of, view_of}
use Rattle.ahead.specs.declared.Ahead.{Ahead}
use Rattle.ahead.specs.declared.Nums.{Nums}

pub by_six : (P : List ℕ → Type 0) → ((a b c d e f : ℕ) → P (a ∷ b ∷ c ∷ d ∷ e ∷ f ∷ [])) → (w : List ℕ) → length w ≡ 6 → P w
by_six P p [] h = absurd (omega arith)
by_six P p (a ∷ []) h = absurd (omega arith)
by_six P p (a ∷ b ∷ []) h = absurd (omega arith)
by_six P p (a ∷ b ∷ c ∷ []) h = absurd (omega arith)
by_six P p (a ∷ b ∷ c ∷ d ∷ []) h = absurd (omega arith)
by_six P p (a ∷ b ∷ c ∷ d ∷ e ∷ []) h = absurd (omega arith)
by_six P p (a ∷ b ∷ c ∷ d ∷ e ∷ f ∷ []) h = p a b c d e f
by_six P p (a ∷ b ∷ c ∷ d ∷ e ∷ f ∷ g ∷ w) h = absurd (omega arith)

-- the numbers tell the words
pub six_same : (w v : List ℕ) → length w ≡ 6 → length v ≡ 6 → nums_of w ≡ nums_of v → w ≡ v
six_same w v h k =
    by_six (λ x. nums_of x ≡ nums_of v → x ≡ v)
    (λ a b c d e f. by_six (λ y. nums_of (a ∷ b ∷ c ∷ d ∷ e ∷ f ∷ []) ≡ nums_of y → (a ∷ b ∷ c ∷ d ∷ e ∷ f ∷ []) ≡ y)
    (λ a' b' c' d' e' f' q. ap (λ (m : Nums). m.next ∷ m.keep ∷ m.held_at ∷ m.held_len ∷ m.wait_at ∷ m.wait_len ∷ []) q) v k) w h

pub lent : (a b : Ahead) → length a.nums ≡ 6 → length b.nums ≡ 6 → view_of a ≡ view_of b → a ≡ b
lent a b h k e =
    let n = six_same a.nums b.nums h k (ap (λ (st : State). st.nums) e) in
    ap₂ (λ (w : List ℕ) (st : State). record { nums = w; held = st.held; counts = st.counts; waiting = st.waiting }) n e
