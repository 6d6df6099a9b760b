-- The numbers of a ring as a list: what a push, a write in front and a queue do to it. Assumes nothing.
use Prim.Native.Nat.{ℕ, zero, suc, ◌+◌, ◌%◌, ◌≤◌, ◌<◌}
use mathlib.Core.Path.{◌≡◌, refl, sym, ap, ap₂, ◌∙◌}
use mathlib.Core.List.{List, [], ◌∷◌, ◌++◌, append_assoc, append-nil}
use native.Mathlib.Omega.{arith}
use lib.Seq.{get_or-set_other, get_or-set_same}
use lib.ListN.{get_or, length, length-set, set}
use Rattle.looks.specs.Buffer.{queued}

-- n numbers from the slot `at` on
unfoldable pub slots : ℕ → List ℕ → ℕ → ℕ → List ℕ
slots size ring at zero = []
slots size ring at (suc n) = get_or ring (at % size) 0 ∷ slots size ring (at + 1) n

-- the numbers i, i + 1, .., n of them
unfoldable pub range : ℕ → ℕ → List ℕ
range i zero = []
range i (suc n) = i ∷ range (i + 1) n

-- what is asked of a ring's size
pub record Ring (size : ℕ) : Type 0 where
  pub apart : (at i n : ℕ) → i < n → n < i + size → (at + i) % size ≡ (at + n) % size → ⊥
  pub again : (at : ℕ) → at % size % size ≡ at % size
  pub onward : (at : ℕ) → (at % size + 1) % size ≡ (at + 1) % size
  pub inside : (at : ℕ) → at % size < size

pub ring_8 : Ring 8
ring_8 = record { apart = λ at i n h k e. omega arith; again = λ at. omega arith; onward = λ at. omega arith; inside = λ at. omega arith }

pub ring_256 : Ring 256
ring_256 = record { apart = λ at i n h k e. omega arith; again = λ at. omega arith; onward = λ at. omega arith; inside = λ at. omega arith }

pub slots_length : (size : ℕ) (ring : List ℕ) (at n : ℕ) → length (slots size ring at n) ≡ n
unfolding slots
slots_length size ring at zero = refl
slots_length size ring at (suc n) = ap suc (slots_length size ring (at + 1) n)

pub slots_split : (size : ℕ) (ring : List ℕ) (at a b : ℕ) → slots size ring at (a + b) ≡ slots size ring at a ++ slots size ring (at + a) b
unfolding slots
slots_split size ring at zero b =
    let e : at ≡ at + 0 = omega arith in
    let f : 0 + b ≡ b = omega arith in
    ap₂ (slots size ring) e f
slots_split size ring at (suc a) b =
    let e : at + 1 + a ≡ at + suc a = omega arith in
    let f : suc a + b ≡ suc (a + b) = omega arith in
    ap (slots size ring at) f ∙ ap (λ (s : List ℕ). get_or ring (at % size) 0 ∷ s) (slots_split size ring (at + 1) a b ∙ ap (λ (k : ℕ). slots size ring (at + 1) a ++ slots size ring k b) e)

slots_same : (size : ℕ) (r₁ r₂ : List ℕ) (at n : ℕ) → ((i : ℕ) → i < n → get_or r₁ ((at + i) % size) 0 ≡ get_or r₂ ((at + i) % size) 0) → slots size r₁ at n ≡ slots size r₂ at n
unfolding slots
slots_same size r₁ r₂ at zero h = refl
slots_same size r₁ r₂ at (suc n) h =
    let e : at + 0 ≡ at = omega arith in
    ap₂ (λ (x : ℕ) (s : List ℕ). x ∷ s)
    (sym (ap (λ (k : ℕ). get_or r₁ (k % size) 0) e) ∙ h 0 (omega arith) ∙ ap (λ (k : ℕ). get_or r₂ (k % size) 0) e)
    (slots_same size r₁ r₂ (at + 1) n (λ i k.
    let f : at + (i + 1) ≡ at + 1 + i = omega arith in
    sym (ap (λ (j : ℕ). get_or r₁ (j % size) 0) f) ∙ h (i + 1) (omega arith) ∙ ap (λ (j : ℕ). get_or r₂ (j % size) 0) f))

module _ (size : ℕ) (r : Ring size) (ring : List ℕ) where
  pub slots_mod : (at n : ℕ) → slots size ring (at % size) n ≡ slots size ring at n
  unfolding slots
  slots_mod at zero = refl
  slots_mod at (suc n) =
      ap₂ (λ (x : ℕ) (s : List ℕ). get_or ring x 0 ∷ s) (r.again at)
      (sym (slots_mod (at % size + 1) n) ∙ ap (λ (k : ℕ). slots size ring k n) (r.onward at) ∙ slots_mod (at + 1) n)

  -- a slot after the n is written
  slots_behind : (at n x : ℕ) → n < size → slots size (set ring ((at + n) % size) x) at n ≡ slots size ring at n
  slots_behind at n x h =
      slots_same size (set ring ((at + n) % size) x) ring at n
      (λ i k. get_or-set_other ring ((at + n) % size) ((at + i) % size) x 0 (r.apart at i n k (omega arith)))

  module _ (full : length ring ≡ size) where
    slot_in : (at : ℕ) → at % size < length ring
    slot_in at = let h = r.inside at in omega arith

    pub slots_push : (at n x : ℕ) → n < size → slots size (set ring ((at + n) % size) x) at (n + 1) ≡ slots size ring at n ++ (x ∷ [])
    unfolding slots
    slots_push at n x h =
        slots_split size (set ring ((at + n) % size) x) at n 1
        ∙ ap₂ (λ (s : List ℕ) (y : ℕ). s ++ (y ∷ [])) (slots_behind at n x h) (get_or-set_same ring ((at + n) % size) x 0 (slot_in (at + n)))

    -- the first slot is written
    pub slots_front : (at n x : ℕ) → n < size → slots size (set ring (at % size) x) at (suc n) ≡ x ∷ slots size ring (at + 1) n
    unfolding slots
    slots_front at n x h =
        ap₂ (λ (y : ℕ) (s : List ℕ). y ∷ s) (get_or-set_same ring (at % size) x 0 (slot_in at))
        (slots_same size (set ring (at % size) x) ring (at + 1) n
        (λ i k. get_or-set_other ring (at % size) ((at + 1 + i) % size) x 0
        (λ e.
        let f : at + 1 + i ≡ at + (i + 1) = omega arith in
        let g : at + 0 ≡ at = omega arith in
        r.apart at 0 (i + 1) (omega arith) (omega arith) (ap (λ (j : ℕ). j % size) g ∙ sym e ∙ ap (λ (j : ℕ). j % size) f))))

pub slots_queued : (w : ℕ) (ring : List ℕ) (at n i : ℕ) → length ring ≡ 256 → n + w ≤ 256 → slots 256 (queued w ring (at + n) i) at (n + w) ≡ slots 256 ring at n ++ range i w
unfolding queued range
slots_queued zero ring at n i full h =
    ap (slots 256 ring at) (let e : n + 0 ≡ n = omega arith in e) ∙ sym (append-nil (slots 256 ring at n))
slots_queued (suc w) ring at n i full h =
    let ring₁ = set ring ((at + n) % 256) i in
    let e : at + n + 1 ≡ at + (n + 1) = omega arith in
    let f : n + suc w ≡ n + 1 + w = omega arith in
    ap₂ (λ (k j : ℕ). slots 256 (queued w ring₁ k (i + 1)) at j) e f
    ∙ slots_queued w ring₁ at (n + 1) (i + 1) (length-set ring ((at + n) % 256) i ∙ full) (omega arith)
    ∙ ap (λ (s : List ℕ). s ++ range (i + 1) w) (slots_push 256 ring_256 ring full at n i (omega arith))
    ∙ append_assoc (slots 256 ring at n) (i ∷ []) (range (i + 1) w)
