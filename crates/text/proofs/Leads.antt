-- One sequence of RFC 3629: what the code's tests say of it, and what a well-formed one is known by. Assumes nothing.
use Prim.Native.Nat.{ℕ, suc, ◌+◌, ◌*◌, ◌%◌, ◌≤◌, ◌<◌}
use mathlib.Core.Path.{◌≡◌, refl, sym, ◌∙◌}
use mathlib.Core.Bool.{Bool, true, false}
use native.Mathlib.Omega.{arith}
use lib.Dec.{leb, eqb}
use borrow.Author.Tests.{eq-eqb, le-leb, leb-false, leb-true, lt-leb, ne_eqb}
use Rattle.laws.proofs.Cases.{both_inv, both_true, never, split, split_eq, within_high, within_inv, within_low, within_yes}
use Rattle.laws.specs.Bools.{both, pick, within}
use Rattle.text.specs.Utf8.{four_of, high_of, lead_of, low_of, second_fits, seq, seq_if, tail, three_of, two_of, width}
use Rattle.text.specs.Wide.{step_of, value_of, wide_of}

pub tail_inv : (b : ℕ) → tail b ≡ true → (0x80 ≤ b) × (b ≤ 0xbf)
tail_inv b h = within_inv 0x80 0xbf b h

module _ (a b : ℕ) (t : tail b ≡ true) where
  pub second_e0 : a ≡ 0xe0 → leb 0xa0 b ≡ second_fits a b
  unfolding second_fits
  second_e0 e = simp (eq-eqb a 0xe0 e, ne_eqb a 0xed (omega arith), ne_eqb a 0xf4 (omega arith), le-leb b 0xbf (tail_inv b t).1, both_true)

  pub second_f0 : a ≡ 0xf0 → leb 0x90 b ≡ second_fits a b
  unfolding second_fits
  second_f0 e = simp (ne_eqb a 0xe0 (omega arith), eq-eqb a 0xf0 e, ne_eqb a 0xed (omega arith), ne_eqb a 0xf4 (omega arith), le-leb b 0xbf (tail_inv b t).1, both_true)

  pub second_ed : a ≡ 0xed → leb b 0x9f ≡ second_fits a b
  unfolding second_fits
  second_ed e = simp (ne_eqb a 0xe0 (omega arith), ne_eqb a 0xf0 (omega arith), eq-eqb a 0xed e, le-leb 0x80 b (tail_inv b t).0)

  pub second_f4 : a ≡ 0xf4 → leb b 0x8f ≡ second_fits a b
  unfolding second_fits
  second_f4 e = simp (ne_eqb a 0xe0 (omega arith), ne_eqb a 0xf0 (omega arith), ne_eqb a 0xed (omega arith), eq-eqb a 0xf4 e, le-leb 0x80 b (tail_inv b t).0)

  pub second_any : (a ≡ 0xe0 → ⊥) → (a ≡ 0xed → ⊥) → (a ≡ 0xf0 → ⊥) → (a ≡ 0xf4 → ⊥) → true ≡ second_fits a b
  unfolding second_fits
  second_any h i j k = simp (ne_eqb a 0xe0 h, ne_eqb a 0xed i, ne_eqb a 0xf0 j, ne_eqb a 0xf4 k, t)

-- the bounds lie within those of a tail byte
pick_least : (p : Bool) (x y : ℕ) → 0x80 ≤ x → 0x80 ≤ y → 0x80 ≤ pick p x y
pick_least true x y h k = h
pick_least false x y h k = k

pick_most : (p : Bool) (x y : ℕ) → x ≤ 0xbf → y ≤ 0xbf → pick p x y ≤ 0xbf
pick_most true x y h k = h
pick_most false x y h k = k

low_least : (a : ℕ) → 0x80 ≤ low_of a
low_least a = pick_least (eqb a 0xe0) 0xa0 (pick (eqb a 0xf0) 0x90 0x80) (omega arith) (pick_least (eqb a 0xf0) 0x90 0x80 (omega arith) (omega arith))

high_most : (a : ℕ) → high_of a ≤ 0xbf
high_most a = pick_most (eqb a 0xed) 0x9f (pick (eqb a 0xf4) 0x8f 0xbf) (omega arith) (pick_most (eqb a 0xf4) 0x8f 0xbf (omega arith) (omega arith))

pub second_inv : (a b : ℕ) → second_fits a b ≡ true → (low_of a ≤ b) × (b ≤ high_of a)
unfolding second_fits
second_inv a b h = within_inv (low_of a) (high_of a) b h

pub second_tail : (a b : ℕ) → second_fits a b ≡ true → tail b ≡ true
second_tail a b h = let i = second_inv a b h in let l = low_least a in let m = high_most a in within_yes 0x80 0xbf b (omega arith) (omega arith)

pub second_no : (a b : ℕ) → tail b ≡ false → second_fits a b ≡ false
second_no a b h = split (second_fits a b) (λ e. never (let z = second_tail a b e in cc)) (λ e. e)

pub width_1 : (v : ℕ) → v ≤ 0x7f → width v ≡ 1
unfolding width
width_1 v h = simp (le-leb _ _ h)

pub width_2 : (v : ℕ) → 0x7f < v → v ≤ 0x7ff → width v ≡ 2
unfolding width
width_2 v h k = simp (lt-leb _ _ h, le-leb _ _ k)

pub width_3 : (v : ℕ) → 0x7ff < v → v ≤ 0xffff → width v ≡ 3
unfolding width
width_3 v h k = simp (lt-leb v 0x7f (omega arith), lt-leb _ _ h, le-leb _ _ k)

pub width_4 : (v : ℕ) → 0xffff < v → width v ≡ 4
unfolding width
width_4 v h = simp (lt-leb v 0x7f (omega arith), lt-leb v 0x7ff (omega arith), lt-leb _ _ h)

-- a well-formed sequence of four bytes' front: the first byte is no tail, the next ones are, and the scalar is as wide as the sequence
pub record Whole (a b c d v e : ℕ) : Type 0 where
  pub wide : width v ≡ suc e
  pub few : e ≤ 3
  pub front : tail a ≡ false
  pub tail_b : 1 ≤ e → tail b ≡ true
  pub tail_c : 2 ≤ e → tail c ≡ true
  pub tail_d : 3 ≤ e → tail d ≡ true
  pub steps : 1 ≤ e → step_of a ≡ suc e
  pub some : 1 ≤ e → 0 < v

seq_inv : (p : Bool) (x n v e : ℕ) → seq_if p x n ≡ seq v e → (p ≡ true) × (x ≡ v) × (n ≡ e)
seq_inv true x n v e h = (refl, (cc), (cc))
seq_inv false x n v e h = never (cc)

-- what a sequence of two, three, four bytes is known by
pub record Two (a b v e : ℕ) : Type 0 where
  pub low : 0xc2 ≤ a
  pub high : a ≤ 0xdf
  pub tail_b : tail b ≡ true
  pub value : a % 32 * 64 + b % 64 ≡ v
  pub more : 1 ≡ e

pub record Three (a b c v e : ℕ) : Type 0 where
  pub low : 0xe0 ≤ a
  pub high : a ≤ 0xef
  pub fits : second_fits a b ≡ true
  pub tail_c : tail c ≡ true
  pub value : a % 16 * 4096 + b % 64 * 64 + c % 64 ≡ v
  pub more : 2 ≡ e

pub record Four (a b c d v e : ℕ) : Type 0 where
  pub low : 0xf0 ≤ a
  pub high : a ≤ 0xf4
  pub fits : second_fits a b ≡ true
  pub tail_c : tail c ≡ true
  pub tail_d : tail d ≡ true
  pub value : a % 8 * 262144 + b % 64 * 4096 + c % 64 * 64 + d % 64 ≡ v
  pub more : 3 ≡ e

pub two_inv : (a b v e : ℕ) → two_of a b ≡ seq v e → Two a b v e
unfolding two_of
two_inv a b v e h =
    let i = seq_inv (both (within 0xc2 0xdf a) (tail b)) (a % 32 * 64 + b % 64) 1 v e h in
    let j = both_inv (within 0xc2 0xdf a) (tail b) i.0 in
    let l = within_inv 0xc2 0xdf a j.0 in
    record { low = l.0; high = l.1; tail_b = j.1; value = i.1; more = i.2 }

pub three_inv : (a b c v e : ℕ) → three_of a b c ≡ seq v e → Three a b c v e
unfolding three_of
three_inv a b c v e h =
    let i = seq_inv (both (within 0xe0 0xef a) (both (second_fits a b) (tail c))) (a % 16 * 4096 + b % 64 * 64 + c % 64) 2 v e h in
    let j = both_inv (within 0xe0 0xef a) (both (second_fits a b) (tail c)) i.0 in
    let k = both_inv (second_fits a b) (tail c) j.1 in
    let l = within_inv 0xe0 0xef a j.0 in
    record { low = l.0; high = l.1; fits = k.0; tail_c = k.1; value = i.1; more = i.2 }

pub four_inv : (a b c d v e : ℕ) → four_of a b c d ≡ seq v e → Four a b c d v e
unfolding four_of
four_inv a b c d v e h =
    let i = seq_inv (both (within 0xf0 0xf4 a) (both (second_fits a b) (both (tail c) (tail d)))) (a % 8 * 262144 + b % 64 * 4096 + c % 64 * 64 + d % 64) 3 v e h in
    let j = both_inv (within 0xf0 0xf4 a) (both (second_fits a b) (both (tail c) (tail d))) i.0 in
    let k = both_inv (second_fits a b) (both (tail c) (tail d)) j.1 in
    let m = both_inv (tail c) (tail d) k.1 in
    let l = within_inv 0xf0 0xf4 a j.0 in
    record { low = l.0; high = l.1; fits = k.0; tail_c = m.0; tail_d = m.1; value = i.1; more = i.2 }

one_whole : (a b c d v e : ℕ) → a ≤ 0x7f → seq a 0 ≡ seq v e → Whole a b c d v e
one_whole a b c d v e ha h =
    let ev : a ≡ v = cc in
    let ee : 0 ≡ e = cc in
    let k = width_1 v (omega arith) in
    record {
      wide = omega arith;
      few = omega arith;
      front = within_low 0x80 0xbf a (omega arith);
      tail_b = λ n. absurd (omega arith);
      tail_c = λ n. absurd (omega arith);
      tail_d = λ n. absurd (omega arith);
      steps = λ n. absurd (omega arith);
      some = λ n. absurd (omega arith);
    }

two_whole : (a b c d v e : ℕ) → Two a b v e → Whole a b c d v e
two_whole a b c d v e t =
    let k = width_2 v (omega arith) (omega arith) in
    record {
      wide = omega arith;
      few = omega arith;
      front = within_high 0x80 0xbf a (omega arith);
      tail_b = λ n. t.tail_b;
      tail_c = λ n. absurd (omega arith);
      tail_d = λ n. absurd (omega arith);
      steps = λ n. simp (le-leb a 0xdf t.high) (omega arith);
      some = λ n. omega arith;
    }

low_e0 : (a : ℕ) → a ≡ 0xe0 → low_of a ≡ 0xa0
low_e0 a e = simp (eq-eqb _ _ e)

low_f0 : (a : ℕ) → a ≡ 0xf0 → low_of a ≡ 0x90
low_f0 a e = simp (ne_eqb a 0xe0 (omega arith), eq-eqb _ _ e)

-- no scalar has a form longer than it needs
pub three_low : (a b c v e : ℕ) → Three a b c v e → 0x7ff < v
three_low a b c v e t =
    let f = second_inv a b t.fits in
    let u = tail_inv b (second_tail a b t.fits) in
    split_eq a 0xe0 (λ q. omega (arith, low_e0 a q)) (λ q. omega arith)

pub four_low : (a b c d v e : ℕ) → Four a b c d v e → 0xffff < v
four_low a b c d v e t =
    let f = second_inv a b t.fits in
    let u = tail_inv b (second_tail a b t.fits) in
    split_eq a 0xf0 (λ q. omega (arith, low_f0 a q)) (λ q. omega arith)

three_whole : (a b c d v e : ℕ) → Three a b c v e → Whole a b c d v e
three_whole a b c d v e t =
    let w = width_3 v (three_low a b c v e t) (omega arith) in
    record {
      wide = omega arith;
      few = omega arith;
      front = within_high 0x80 0xbf a (omega arith);
      tail_b = λ n. second_tail a b t.fits;
      tail_c = λ n. t.tail_c;
      tail_d = λ n. absurd (omega arith);
      steps = λ n. simp (lt-leb a 0xdf (omega arith), le-leb a 0xef t.high) (omega arith);
      some = λ n. let l = three_low a b c v e t in omega arith;
    }

four_whole : (a b c d v e : ℕ) → Four a b c d v e → Whole a b c d v e
four_whole a b c d v e t =
    let w = width_4 v (four_low a b c d v e t) in
    record {
      wide = omega arith;
      few = omega arith;
      front = within_high 0x80 0xbf a (omega arith);
      tail_b = λ n. second_tail a b t.fits;
      tail_c = λ n. t.tail_c;
      tail_d = λ n. t.tail_d;
      steps = λ n. simp (lt-leb a 0xdf (omega arith), lt-leb a 0xef (omega arith)) (omega arith);
      some = λ n. let l = four_low a b c d v e t in omega arith;
    }

-- cases on which length the first byte gives
pub by_lead {ℓ} : {X : Type ℓ} (a b c d : ℕ) → (a ≤ 0x7f → lead_of a b c d ≡ seq a 0 → X) → (0x7f < a → lead_of a b c d ≡ two_of a b → X)
    → (0x7f < a → lead_of a b c d ≡ three_of a b c → X) → (0x7f < a → lead_of a b c d ≡ four_of a b c d → X) → X
unfolding lead_of
by_lead a b c d f g h i =
    split (leb a 0x7f) (λ t. f (leb-true _ _ t) (simp t))
    (λ t. split (leb a 0xdf) (λ u. g (leb-false _ _ t) (simp (t, u)))
    (λ u. split (leb a 0xef) (λ w. h (leb-false _ _ t) (simp (t, u, w))) (λ w. i (leb-false _ _ t) (simp (t, u, w)))))

pub lead_whole : (a b c d v e : ℕ) → lead_of a b c d ≡ seq v e → Whole a b c d v e
lead_whole a b c d v e h =
    by_lead a b c d (λ l q. one_whole a b c d v e l (sym q ∙ h)) (λ l q. two_whole a b c d v e (two_inv a b v e (sym q ∙ h)))
    (λ l q. three_whole a b c d v e (three_inv a b c v e (sym q ∙ h))) (λ l q. four_whole a b c d v e (four_inv a b c d v e (sym q ∙ h)))

-- from 0x80 on, the sequence by value
pub wide_lead : (a b c d : ℕ) → 0x7f < a → wide_of a b c d ≡ value_of (lead_of a b c d)
unfolding wide_of lead_of
wide_lead a b c d h = sym (simp (lt-leb a 0x7f h))

-- no sequence that starts from 0x80 on has one byte
pub value_zero : (a b c d v : ℕ) → 0x7f < a → lead_of a b c d ≡ seq v 0 → ⊥
value_zero a b c d v hi h =
    by_lead a b c d (λ l q. omega arith) (λ l q. omega (arith, (two_inv a b v 0 (sym q ∙ h)).more))
    (λ l q. omega (arith, (three_inv a b c v 0 (sym q ∙ h)).more)) (λ l q. omega (arith, (four_inv a b c d v 0 (sym q ∙ h)).more))

-- where the first byte sets no bounds of its own, the second is a tail or does not fit
pub second_plain : (a b : ℕ) → a < 0xe0 → second_fits a b ≡ false → tail b ≡ false
second_plain a b h e =
    split (tail b)
    (λ t. never (let z = second_any a b t (omega arith) (omega arith) (omega arith) (omega arith) in cc))
    (λ t. t)
