-- The test of UTF-8 by blocks: runs below 0x80, the length of a sequence as the code finds it, and what was passed. Assumes nothing.
use Rattle.std.specs.Prelude.{Option, Some, None}
use Prim.Native.Nat.{ℕ, zero, suc, ◌+◌, ◌≤◌, ◌<◌}
use mathlib.Core.Path.{◌≡◌, refl, sym, ap, ◌∙◌, subst}
use mathlib.Core.List.{List, []}
use mathlib.Core.Bool.{true, false}
use native.Mathlib.Omega.{arith}
use lib.ListN.{drop, get_or, length, take}
use Rattle.std.proofs.lemmas.List.{get_or-drop, get_or-take, length-drop, length-take}
use borrow.Author.Tests.{le-leb, lt-leb}
use Rattle.laws.proofs.Cases.{both_false, never, split_eq, split_le}
use Rattle.source_test.specs.Blocks.{AtMost, Passed, len_of}
use Rattle.source_test.specs.Source.{sound_to}
use Rattle.text.proofs.Decode.{Step, after_end, after_step, by_first, end_first, first_at, lead_at, step_ascii, step_first}
use Rattle.text.proofs.Leads.{second_plain, second_tail}
use Rattle.text.specs.Utf8.{Lead, after, bad, first, four_of, lead_of, rest, second_fits, seq, tail, three_of, two_of}

-- none of the first n bytes is more than m
abbrev pub Low : List ℕ → ℕ → ℕ → Type 0
Low s n m = (i : ℕ) → i < n → get_or s i 0 ≤ m

pub low_next : (s : List ℕ) (i m r : ℕ) → Low s i m → m ≤ r → get_or s i 0 ≤ r → Low s (i + 1) r
low_next s i m r f h k j l =
    split_eq j i (λ e. subst (λ (x : ℕ). get_or s x 0 ≤ r) (sym e) k) (λ e. let g = f j (omega arith) in omega arith)

-- of a block that is taken out
pub low_block : (s : List ℕ) (at n k m : ℕ) → n ≡ 64 → at + 64 ≤ length s → length (take n (drop at s)) ≤ k → Low (take n (drop at s)) k m → AtMost s at 64 m
low_block s at n k m e h l f i j =
    let q = f i (omega (arith, length-take n (drop at s), length-drop at s)) in
    omega (arith, get_or-take n (drop at s) i 0 (omega arith), get_or-drop at s i 0)

ascii_run : (s : List ℕ) (at n : ℕ) → AtMost s at n 0x7f → at + n ≤ length s → after (rest s (at + n)) (at + n) ≡ after (rest s at) at
ascii_run s at zero f h = let e : at + 0 ≡ at = omega arith in ap (λ (x : ℕ). after (rest s x) x) e
ascii_run s at (suc n) f h =
    let e : at + suc n ≡ at + n + 1 = omega arith in
    ap (λ (x : ℕ). after (rest s x) x) e ∙ after_step _ _ _ _ (step_ascii s (at + n) (omega arith) (f n (omega arith)))
    ∙ ascii_run s at n (λ i l. f i (omega arith)) (omega arith)

pub passed_run : (s : List ℕ) (at : ℕ) → AtMost s at 64 0x7f → at + 64 ≤ length s → Passed s at (at + 64)
passed_run s at f h = record { on = omega arith; inside = h; same = ascii_run s at 64 f h; some = λ e. absurd (omega arith) }

-- the length, as the code's tests find it
module _ (a b c d : ℕ) (ha : 0x7f < a) where
  len_low : a < 0xc2 → len_of (lead_of a b c d) ≡ None
  unfolding lead_of two_of
  len_low h = simp (lt-leb a 0x7f ha, le-leb a 0xdf (omega arith), lt-leb 0xc2 a h)

  pub len_first : a < 0xc2 → None ≡ len_of (lead_of a b c d)
  len_first h = sym (len_low h)

  pub len_2 : 0xc2 ≤ a → a ≤ 0xdf → second_fits a b ≡ true → Some 2 ≡ len_of (lead_of a b c d)
  unfolding lead_of two_of
  len_2 h k e = simp (lt-leb a 0x7f ha, le-leb a 0xdf k, le-leb 0xc2 a h, second_tail a b e)

  pub len_second : 0xc2 ≤ a → second_fits a b ≡ false → None ≡ len_of (lead_of a b c d)
  unfolding lead_of two_of three_of four_of
  len_second h e =
      split_le a 0xdf
      (λ k. simp (lt-leb a 0x7f ha, le-leb a 0xdf k, second_plain a b (omega arith) e, both_false))
      (λ k. split_le a 0xef (λ l. simp (lt-leb a 0x7f ha, lt-leb a 0xdf k, le-leb a 0xef l, e, both_false)) (λ l. simp (lt-leb a 0x7f ha, lt-leb a 0xdf k, lt-leb a 0xef l, e, both_false)))

  pub len_third : 0xdf < a → tail c ≡ false → None ≡ len_of (lead_of a b c d)
  unfolding lead_of three_of four_of
  len_third k e =
      split_le a 0xef (λ l. simp (lt-leb a 0x7f ha, lt-leb a 0xdf k, le-leb a 0xef l, e, both_false))
      (λ l. simp (lt-leb a 0x7f ha, lt-leb a 0xdf k, lt-leb a 0xef l, e, both_false))

  pub len_3 : 0xdf < a → a ≤ 0xef → second_fits a b ≡ true → tail c ≡ true → Some 3 ≡ len_of (lead_of a b c d)
  unfolding lead_of three_of
  len_3 k l e f = simp (lt-leb a 0x7f ha, lt-leb a 0xdf k, le-leb a 0xef l, le-leb 0xe0 a k, e, f)

  pub len_last : 0xf4 < a → None ≡ len_of (lead_of a b c d)
  unfolding lead_of four_of
  len_last h = simp (lt-leb a 0x7f ha, lt-leb a 0xdf (omega arith), lt-leb a 0xef (omega arith), lt-leb a 0xf4 h, both_false)

  pub len_fourth : 0xef < a → tail d ≡ false → None ≡ len_of (lead_of a b c d)
  unfolding lead_of four_of
  len_fourth l e = simp (lt-leb a 0x7f ha, lt-leb a 0xdf (omega arith), lt-leb a 0xef l, e, both_false)

  pub len_4 : 0xef < a → a ≤ 0xf4 → second_fits a b ≡ true → tail c ≡ true → tail d ≡ true → Some 4 ≡ len_of (lead_of a b c d)
  unfolding lead_of four_of
  len_4 l h e f g = simp (lt-leb a 0x7f ha, lt-leb a 0xdf (omega arith), lt-leb a 0xef l, le-leb 0xf0 a l, le-leb a 0xf4 h, e, f, g)

-- at a place: no length ends the scalars, any other passes one
module _ (s : List ℕ) (at : ℕ) (h : at < length s) (r : Option ℕ) (er : r ≡ len_of (lead_at s at)) where
  len_is : (l : Lead) → first (drop at s) ≡ l → r ≡ len_of l
  len_is l e = er ∙ ap len_of (sym (first_at s at h) ∙ e)

  pub len_none : r ≡ None → rest s at ≡ []
  len_none z = by_first s at (λ e. end_first s at e) (λ v k e. never (let q = len_is (seq v k) e in cc))

  pub len_some : (n : ℕ) → r ≡ Some n → (v : ℕ) × Step s at v (at + n)
  len_some n z =
      by_first s at (λ e. never (let q = len_is bad e in cc))
      (λ v k e.
      let q = len_is (seq v k) e in
      let i : suc k ≡ n = cc in
      (v, subst (λ (m : ℕ). Step s at v (at + m)) i (step_first s at v k e)))

-- a walk over whole scalars
pub record Walked (s : List ℕ) (at p : ℕ) : Type 0 where
  pub on : at ≤ p
  pub inside : p ≤ length s
  pub same : after (rest s p) p ≡ after (rest s at) at

pub walked_start : (s : List ℕ) (at : ℕ) → at ≤ length s → Walked s at at
walked_start s at h = record { on = omega arith; inside = h; same = refl }

pub walked_step : (s : List ℕ) (at p v n : ℕ) → Walked s at p → Step s p v n → Walked s at n
walked_step s at p v n w t = let a = w.on in let b = t.past in record { on = omega arith; inside = t.room; same = after_step s p v n t ∙ w.same }

pub walked_bad : (s : List ℕ) (at p : ℕ) → Walked s at p → rest s p ≡ [] → Passed s at p
walked_bad s at p w e = record { on = w.on; inside = w.inside; same = w.same; some = λ q. subst (λ (n : ℕ). rest s n ≡ []) q e }

pub walked_past : (s : List ℕ) (at p : ℕ) → Walked s at p → at < p → Passed s at p
walked_past s at p w l = record { on = w.on; inside = w.inside; same = w.same; some = λ q. absurd (omega arith) }

pub sound_end : (s : List ℕ) (p : ℕ) → after (rest s p) p ≡ after (rest s 0) 0 → rest s p ≡ [] → p ≡ sound_to s
unfolding sound_to
sound_end s p e n = sym (after_end s p n) ∙ e
