-- The rows of RFC 3629's table: the bytes of a scalar are a sequence of it, and the other way round. Assumes nothing.
use Prim.Native.Nat.{ℕ, suc, ◌+◌, ◌*◌, ◌/◌, ◌%◌, ◌≤◌, ◌<◌}
use mathlib.Core.Path.{◌≡◌, sym, ap, ◌∙◌}
use mathlib.Core.List.{List, [], ◌∷◌}
use mathlib.Core.Bool.{true, false}
use mathlib.Core.Logic.{inl, inr, ◌⊎◌, ⊎_elim}
use native.Mathlib.Omega.{arith}
use lib.Dec.{leb}
use lib.ListN.{length, take}
use borrow.Author.Tests.{eq-eqb, le-leb, lt-leb, ne_eqb}
use Rattle.encoding.specs.Encode.{bytes_of, encode_of, encoded_of, is_scalar, padded, tail_of}
use Rattle.laws.proofs.Cases.{either_true, split_eq, split_le, within_inv, within_yes}
use Rattle.text.proofs.Leads.{Four, Three, Two, by_lead, four_inv, four_low, second_any, second_e0, second_ed, second_f0, second_f4, second_inv, second_tail, tail_inv, three_inv, three_low, two_inv, width_1, width_2, width_3, width_4}
use Rattle.text.specs.Utf8.{four_of, high_of, lead_of, second_fits, seq, tail, three_of, two_of, width}

pub scalar_low : (v : ℕ) → v ≤ 0xd7ff → is_scalar v ≡ true
scalar_low v h = simp (le-leb v 0xd7ff h)

pub scalar_high : (v : ℕ) → 0xe000 ≤ v → v ≤ 0x10ffff → is_scalar v ≡ true
scalar_high v h k = rw (within_yes 0xe000 0x10ffff v h k) (either_true (leb v 0xd7ff))

pub scalar_inv : (v : ℕ) → is_scalar v ≡ true → (v ≤ 0xd7ff) ⊎ ((0xe000 ≤ v) × (v ≤ 0x10ffff))
scalar_inv v h = split_le v 0xd7ff (λ l. inl l) (λ l. inr (within_inv 0xe000 0x10ffff v (simp (lt-leb v 0xd7ff l) at h)))

pub scalar_most : (v : ℕ) → is_scalar v ≡ true → v ≤ 0x10ffff
scalar_most v h = ⊎_elim (λ l. omega arith) (λ l. l.1) (scalar_inv v h)

-- the rows of the table
pub encode_1 : (v : ℕ) → v ≤ 0x7f → encode_of v ≡ v ∷ []
unfolding encode_of bytes_of
encode_1 v h = rw (scalar_low v (omega arith), le-leb v 0x7f h)

pub encode_2 : (v : ℕ) → 0x7f < v → v ≤ 0x7ff → encode_of v ≡ (0xc0 + v / 64) ∷ tail_of v ∷ []
unfolding encode_of bytes_of
encode_2 v h k = rw (scalar_low v (omega arith), lt-leb v 0x7f h, le-leb v 0x7ff k)

pub encode_3 : (v : ℕ) → 0x7ff < v → v ≤ 0xffff → is_scalar v ≡ true → encode_of v ≡ (0xe0 + v / 4096) ∷ tail_of (v / 64) ∷ tail_of v ∷ []
unfolding encode_of bytes_of
encode_3 v h k i = rw (i, lt-leb v 0x7f (omega arith), lt-leb v 0x7ff h, le-leb v 0xffff k)

pub encode_4 : (v : ℕ) → 0xffff < v → is_scalar v ≡ true → encode_of v ≡ (0xf0 + v / 262144) ∷ tail_of (v / 4096) ∷ tail_of (v / 64) ∷ tail_of v ∷ []
unfolding encode_of bytes_of
encode_4 v h i = rw (i, lt-leb v 0x7f (omega arith), lt-leb v 0x7ff (omega arith), lt-leb v 0xffff h)

pub encode_none : (v : ℕ) → is_scalar v ≡ false → encode_of v ≡ []
unfolding encode_of
encode_none v h = rw h

-- cases on the row
pub by_row {ℓ} : {X : Type ℓ} (v : ℕ) → (v ≤ 0x7f → X) → (0x7f < v → v ≤ 0x7ff → X) → (0x7ff < v → v ≤ 0xffff → X) → (0xffff < v → X) → X
by_row v f g h i = split_le v 0x7f f (λ a. split_le v 0x7ff (g a) (λ b. split_le v 0xffff (h b) i))

pub encode_length : (v : ℕ) → is_scalar v ≡ true → length (encode_of v) ≡ width v
encode_length v i =
    by_row v
    (λ h. ap length (encode_1 v h) ∙ sym (width_1 v h))
    (λ h k. ap length (encode_2 v h k) ∙ sym (width_2 v h k))
    (λ h k. ap length (encode_3 v h k i) ∙ sym (width_3 v h k))
    (λ h. ap length (encode_4 v h i) ∙ sym (width_4 v h))

tail_of_law : (v : ℕ) → tail (tail_of v) ≡ true
tail_of_law v = within_yes 0x80 0xbf (tail_of v) (omega arith) (omega arith)

tail_bits : (v : ℕ) → tail_of v % 64 ≡ v % 64
tail_bits v = omega arith

digits_3 : (v : ℕ) → v / 4096 * 4096 + v / 64 % 64 * 64 + v % 64 ≡ v
digits_3 v = omega arith

digits_4 : (v : ℕ) → v / 262144 * 262144 + v / 4096 % 64 * 4096 + v / 64 % 64 * 64 + v % 64 ≡ v
digits_4 v =
    let m : v / 4096 ≡ v / 262144 * 64 + v / 4096 % 64 = omega arith in
    let n = digits_3 v in
    go (v / 4096) (v / 262144) (v / 4096 % 64) (v / 64 % 64 * 64) (v % 64) m n
  where
    go : (w a b c d : ℕ) → w ≡ a * 64 + b → w * 4096 + c + d ≡ v → a * 262144 + b * 4096 + c + d ≡ v
    go w a b c d m n = omega arith

-- each row is a sequence of its scalar
pub lead_1 : (v x y z : ℕ) → v ≤ 0x7f → lead_of v x y z ≡ seq v 0
unfolding lead_of
lead_1 v x y z h = simp (le-leb v 0x7f h)

two_of_law : (a b v : ℕ) → 0xc2 ≤ a → a ≤ 0xdf → tail b ≡ true → a % 32 * 64 + b % 64 ≡ v → two_of a b ≡ seq v 1
unfolding two_of
two_of_law a b v h k t e = rw (within_yes 0xc2 0xdf a h k, t) (ap (λ (n : ℕ). seq n 1) e)

pub lead_2 : (v x y : ℕ) → 0x7f < v → v ≤ 0x7ff → lead_of (0xc0 + v / 64) (tail_of v) x y ≡ seq v 1
unfolding lead_of
lead_2 v x y h k =
    simp (lt-leb (0xc0 + v / 64) 0x7f (omega arith), le-leb (0xc0 + v / 64) 0xdf (omega arith))
    (two_of_law (0xc0 + v / 64) (tail_of v) v (omega arith) (omega arith) (tail_of_law v) (omega arith))

-- the bounds of the second byte
fits : (a b : ℕ) → tail b ≡ true → (a ≡ 0xe0 → 0xa0 ≤ b) → (a ≡ 0xf0 → 0x90 ≤ b) → (a ≡ 0xed → b ≤ 0x9f) → (a ≡ 0xf4 → b ≤ 0x8f) → second_fits a b ≡ true
fits a b t h i j k =
    split_eq a 0xe0 (λ e. sym (second_e0 a b t e) ∙ le-leb 0xa0 b (h e))
    (λ n₁. split_eq a 0xf0 (λ e. sym (second_f0 a b t e) ∙ le-leb 0x90 b (i e))
    (λ n₂. split_eq a 0xed (λ e. sym (second_ed a b t e) ∙ le-leb b 0x9f (j e))
    (λ n₃. split_eq a 0xf4 (λ e. sym (second_f4 a b t e) ∙ le-leb b 0x8f (k e)) (λ n₄. sym (second_any a b t n₁ n₃ n₂ n₄)))))

three_of_law : (a b c v : ℕ) → 0xe0 ≤ a → a ≤ 0xef → second_fits a b ≡ true → tail c ≡ true → a % 16 * 4096 + b % 64 * 64 + c % 64 ≡ v → three_of a b c ≡ seq v 2
unfolding three_of
three_of_law a b c v h k t u e = rw (within_yes 0xe0 0xef a h k, t, u) (ap (λ (n : ℕ). seq n 2) e)

pub lead_3 : (v x : ℕ) → 0x7ff < v → v ≤ 0xffff → is_scalar v ≡ true → lead_of (0xe0 + v / 4096) (tail_of (v / 64)) (tail_of v) x ≡ seq v 2
unfolding lead_of
lead_3 v x h k i =
    let top : (0xe0 + v / 4096) % 16 ≡ v / 4096 = omega arith in
    let gap : 0xe0 + v / 4096 ≡ 0xed → tail_of (v / 64) ≤ 0x9f = λ e. ⊎_elim (λ l. omega arith) (λ l. absurd (let q = l.0 in omega arith)) (scalar_inv v i) in
    simp (lt-leb (0xe0 + v / 4096) 0x7f (omega arith), lt-leb (0xe0 + v / 4096) 0xdf (omega arith), le-leb (0xe0 + v / 4096) 0xef (omega arith))
    (three_of_law (0xe0 + v / 4096) (tail_of (v / 64)) (tail_of v) v (omega arith) (omega arith)
    (fits (0xe0 + v / 4096) (tail_of (v / 64)) (tail_of_law (v / 64)) (λ e. omega arith) (λ e. absurd (omega arith)) gap (λ e. absurd (omega arith)))
    (tail_of_law v) (rw (top, tail_bits (v / 64), tail_bits v) (digits_3 v)))

four_of_law : (a b c d v : ℕ) → 0xf0 ≤ a → a ≤ 0xf4 → second_fits a b ≡ true → tail c ≡ true → tail d ≡ true → a % 8 * 262144 + b % 64 * 4096 + c % 64 * 64 + d % 64 ≡ v → four_of a b c d ≡ seq v 3
unfolding four_of
four_of_law a b c d v h k t u w e = rw (within_yes 0xf0 0xf4 a h k, t, u, w) (ap (λ (n : ℕ). seq n 3) e)

pub lead_4 : (v : ℕ) → 0xffff < v → v ≤ 0x10ffff → lead_of (0xf0 + v / 262144) (tail_of (v / 4096)) (tail_of (v / 64)) (tail_of v) ≡ seq v 3
unfolding lead_of
lead_4 v h k =
    let top : (0xf0 + v / 262144) % 8 ≡ v / 262144 = omega arith in
    simp (lt-leb (0xf0 + v / 262144) 0x7f (omega arith), lt-leb (0xf0 + v / 262144) 0xdf (omega arith), lt-leb (0xf0 + v / 262144) 0xef (omega arith))
    (four_of_law (0xf0 + v / 262144) (tail_of (v / 4096)) (tail_of (v / 64)) (tail_of v) v (omega arith) (omega arith)
    (fits (0xf0 + v / 262144) (tail_of (v / 4096)) (tail_of_law (v / 4096)) (λ e. absurd (omega arith)) (λ e. omega arith) (λ e. absurd (omega arith)) (λ e. omega arith))
    (tail_of_law (v / 64)) (tail_of_law v) (rw (top, tail_bits (v / 4096), tail_bits (v / 64), tail_bits v) (digits_4 v)))

-- the digits of a scalar to the base 64, from their sum
sum_3 : (v x y z : ℕ) → y < 64 → z < 64 → x * 4096 + y * 64 + z ≡ v → (v / 4096 ≡ x) × (v / 64 % 64 ≡ y) × (v % 64 ≡ z)
sum_3 v x y z h k e = (omega arith, omega arith, omega arith)

sum_4 : (v w x y z : ℕ) → x < 64 → y < 64 → z < 64 → w * 262144 + x * 4096 + y * 64 + z ≡ v
    → (v / 262144 ≡ w) × (v / 4096 % 64 ≡ x) × (v / 64 % 64 ≡ y) × (v % 64 ≡ z)
sum_4 v w x y z h k l e =
    let d = sum_3 v (w * 64 + x) y z k l (omega arith) in
    let top = d.0 in
    (omega arith, omega arith, d.1, d.2)

tail_is : (b n : ℕ) → tail b ≡ true → n % 64 ≡ b % 64 → tail_of n ≡ b
tail_is b n t e = let l = tail_inv b t in omega arith

top_3 : (a n : ℕ) → 0xe0 ≤ a → a ≤ 0xef → n ≡ a % 16 → 0xe0 + n ≡ a
top_3 a n h k e = omega arith

top_4 : (a n : ℕ) → 0xf0 ≤ a → a ≤ 0xf4 → n ≡ a % 8 → 0xf0 + n ≡ a
top_4 a n h k e = omega arith

-- each sequence is the row of its scalar
module _ (a b v e : ℕ) (t : Two a b v e) where
  two_scalar : is_scalar v ≡ true
  two_scalar = scalar_low v (omega arith)

  two_row : encode_of v ≡ a ∷ b ∷ []
  two_row =
      let u = tail_inv b t.tail_b in
      let pa : 0xc0 + v / 64 ≡ a = omega arith in
      let pb : tail_of v ≡ b = omega arith in
      encode_2 v (omega arith) (omega arith) ∙ rw (pa, pb)

high_ed : (a : ℕ) → a ≡ 0xed → high_of a ≡ 0x9f
high_ed a e = simp (eq-eqb _ _ e)

high_f4 : (a : ℕ) → a ≡ 0xf4 → high_of a ≡ 0x8f
high_f4 a e = simp (ne_eqb a 0xed (omega arith), eq-eqb _ _ e)

module _ (a b c v e : ℕ) (t : Three a b c v e) where
  three_scalar : is_scalar v ≡ true
  three_scalar =
      let f = second_inv a b t.fits in
      let u = tail_inv b (second_tail a b t.fits) in
      split_le a 0xec (λ l. scalar_low v (omega arith))
      (λ l. split_eq a 0xed (λ q. scalar_low v (omega (arith, high_ed a q))) (λ q. scalar_high v (omega arith) (omega arith)))

  three_row : encode_of v ≡ a ∷ b ∷ c ∷ []
  three_row =
      let d = sum_3 v (a % 16) (b % 64) (c % 64) (omega arith) (omega arith) t.value in
      let pa = top_3 a (v / 4096) t.low t.high d.0 in
      let pb = tail_is b (v / 64) (second_tail a b t.fits) d.1 in
      let pc = tail_is c v t.tail_c d.2 in
      encode_3 v (three_low a b c v e t) (omega arith) three_scalar ∙ rw (pa, pb, pc)

module _ (a b c d v e : ℕ) (t : Four a b c d v e) where
  four_scalar : is_scalar v ≡ true
  four_scalar =
      let f = second_inv a b t.fits in
      let u = tail_inv b (second_tail a b t.fits) in
      let l = four_low a b c d v e t in
      scalar_high v (omega arith) (split_eq a 0xf4 (λ q. omega (arith, high_f4 a q)) (λ q. omega arith))

  four_row : encode_of v ≡ a ∷ b ∷ c ∷ d ∷ []
  four_row =
      let s = sum_4 v (a % 8) (b % 64) (c % 64) (d % 64) (omega arith) (omega arith) (omega arith) t.value in
      let pa = top_4 a (v / 262144) t.low t.high s.0 in
      let pb = tail_is b (v / 4096) (second_tail a b t.fits) s.1 in
      let pc = tail_is c (v / 64) t.tail_c s.2 in
      let pd = tail_is d v t.tail_d s.3 in
      encode_4 v (four_low a b c d v e t) four_scalar ∙ rw (pa, pb, pc, pd)

-- the scalar of a sequence, and its bytes
pub lead_scalar : (a b c d v e : ℕ) → lead_of a b c d ≡ seq v e → is_scalar v ≡ true
lead_scalar a b c d v e h =
    by_lead a b c d
    (λ l q. let r = sym q ∙ h in let p : a ≡ v = cc in scalar_low v (omega arith))
    (λ l q. two_scalar a b v e (two_inv a b v e (sym q ∙ h)))
    (λ l q. three_scalar a b c v e (three_inv a b c v e (sym q ∙ h)))
    (λ l q. four_scalar a b c d v e (four_inv a b c d v e (sym q ∙ h)))

pub lead_bytes : (a b c d v e : ℕ) → lead_of a b c d ≡ seq v e → encode_of v ≡ take (suc e) (a ∷ b ∷ c ∷ d ∷ [])
lead_bytes a b c d v e h =
    by_lead a b c d
    (λ l q.
    let r = sym q ∙ h in
    let p : a ≡ v = cc in
    let z : 0 ≡ e = cc in
    encode_1 v (omega arith) ∙ ap (λ (x : ℕ). x ∷ []) (sym p) ∙ ap front z)
    (λ l q. let t = two_inv a b v e (sym q ∙ h) in two_row a b v e t ∙ ap front t.more)
    (λ l q. let t = three_inv a b c v e (sym q ∙ h) in three_row a b c v e t ∙ ap front t.more)
    (λ l q. let t = four_inv a b c d v e (sym q ∙ h) in four_row a b c d v e t ∙ ap front t.more)
  where
    front : ℕ → List ℕ
    front n = take (suc n) (a ∷ b ∷ c ∷ d ∷ [])

-- a scalar as the code gives it
pub encoded_1 : (v : ℕ) → v ≤ 0x7f → padded (v ∷ []) ≡ encoded_of v
unfolding encoded_of
encoded_1 v h = ap padded (sym (encode_1 v h))

pub encoded_2 : (v : ℕ) → 0x7f < v → v ≤ 0x7ff → {x : ℕ} → x ≡ tail_of v → padded ((0xc0 + v / 64) ∷ x ∷ []) ≡ encoded_of v
unfolding encoded_of
encoded_2 v h k p = rw p (ap padded (sym (encode_2 v h k)))

pub encoded_3 : (v : ℕ) → 0x7ff < v → v ≤ 0xffff → is_scalar v ≡ true → {x y : ℕ} → x ≡ tail_of (v / 64) → y ≡ tail_of v → padded ((0xe0 + v / 4096) ∷ x ∷ y ∷ []) ≡ encoded_of v
unfolding encoded_of
encoded_3 v h k i p q = rw (p, q) (ap padded (sym (encode_3 v h k i)))

pub encoded_4 : (v : ℕ) → 0xffff < v → is_scalar v ≡ true → {x y z : ℕ} → x ≡ tail_of (v / 4096) → y ≡ tail_of (v / 64) → z ≡ tail_of v → padded ((0xf0 + v / 262144) ∷ x ∷ y ∷ z ∷ []) ≡ encoded_of v
unfolding encoded_of
encoded_4 v h i p q r = rw (p, q, r) (ap padded (sym (encode_4 v h i)))

pub encoded_none : (v : ℕ) → is_scalar v ≡ false → padded [] ≡ encoded_of v
unfolding encoded_of
encoded_none v h = ap padded (sym (encode_none v h))
