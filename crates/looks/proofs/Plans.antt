-- Planning `bump_while` on numbers: what a turn of the plan knows of the run that it stands for. Assumes nothing.
use Prim.Native.Nat.{ℕ, zero, suc, ◌+◌, ◌-◌, ◌≤◌, ◌<◌}
use mathlib.Core.Path.{◌≡◌, refl, sym, ap, ◌∙◌}
use mathlib.Core.List.{List}
use mathlib.Core.Bool.{true, false}
use native.Mathlib.Omega.{arith}
use lib.Dec.{leb, ltb, eqb}
use lib.ListN.{length, length-set}
use borrow.Author.Tests.{eq-eqb, le-leb, ne_eqb}
use Rattle.std.specs.Prelude.{Ok, Err}
use Rattle.laws.proofs.Cases.{both_true, split, split_eq, split_le}
use Rattle.laws.specs.Bools.{both, pick}
use Rattle.looks.proofs.Fronts.{fill_held, fill_none, front_last, front_more}
use Rattle.looks.specs.Buffer.{State, fill, fits, fits_for, gather_at, gather_nums, white_to}
use Rattle.looks.specs.Calls.{bumped}
use Rattle.looks.specs.Front.{nth_of, white_of}
use Rattle.looks.specs.Numbered.{dark, end_at, kind_at, list_end, start_at, token_count}
use Rattle.looks.specs.While.{fill_nums, goes_on, plan_of, run_of, stops}
use Rattle.looks.specs.declared.emit.Words.{Words}
use Rattle.looks.specs.declared.look.Stop.TheVariants.{StoreShort, WaitingFull}
use Rattle.ahead.specs.declared.Nums.{Nums}

-- two states with the same numbers and none held have the same front once filled
pub front_same : (l : List ℕ) (st st' : State) → st.nums ≡ st'.nums → st.nums.held_len ≡ 0
    → length st.held ≡ 8 → length st.counts ≡ 8 → length st'.held ≡ 8 → length st'.counts ≡ 8
    → (white_of (fill l 0 st) ≡ white_of (fill l 0 st')) × (nth_of l 0 (fill l 0 st) ≡ nth_of l 0 (fill l 0 st'))
front_same l st st' e none h c h' c' =
    let p = dark l st.nums.next in
    let none' = sym (ap (λ (m : Nums). m.held_len) e) ∙ none in
    let at = ap (λ (m : Nums). dark l m.next) e in
    split_le (token_count l) p
    (λ q.
    let w : Words = record { kind = 67; start = list_end l; end = list_end l } in
    let a = front_last l st none p refl q _ w refl refl in
    let b = front_last l st' none' p at q (st.nums.wait_len + white_to p st.nums) w (ap (λ (m : Nums). m.wait_len + white_to p m) e) refl in
    (sym a.0 ∙ b.0, sym a.1 ∙ b.1))
    (λ q.
    let w : Words = record { kind = kind_at l p; start = start_at l p; end = end_at l p } in
    let a = front_more l st none p refl h c q _ w refl refl in
    let b = front_more l st' none' p at h' c' q (white_to p st.nums) w (ap (white_to p) e) refl in
    (sym a.0 ∙ b.0, sym a.1 ∙ b.1))

pub fill_nums_law : (l : List ℕ) (st : State) → (fill l 0 st).nums ≡ fill_nums l st.nums
unfolding gather_at
fill_nums_law l st =
    split_eq st.nums.held_len 0
    (λ none. ap (λ (s : State). s.nums) (fill_none l st none) ∙ sym (rw (eq-eqb st.nums.held_len 0 none)))
    (λ some. ap (λ (s : State). s.nums) (fill_held l st some) ∙ sym (rw (ne_eqb st.nums.held_len 0 some)))

pub fill_sizes : (l : List ℕ) (st : State) → length st.held ≡ 8 → length st.counts ≡ 8 → (length (fill l 0 st).held ≡ 8) × (length (fill l 0 st).counts ≡ 8)
unfolding gather_at
fill_sizes l st h c =
    let p = dark l st.nums.next in
    split_eq st.nums.held_len 0
    (λ none.
    let e = fill_none l st none in
    split (ltb p (token_count l))
    (λ b. (ap (λ (s : State). length s.held) e ∙ rw b (simp length-set h), ap (λ (s : State). length s.counts) e ∙ rw b (simp length-set c)))
    (λ b. (ap (λ (s : State). length s.held) e ∙ rw b h, ap (λ (s : State). length s.counts) e ∙ rw b c)))
    (λ some.
    let e = fill_held l st some in
    (ap (λ (s : State). length s.held) e ∙ h, ap (λ (s : State). length s.counts) e ∙ c))

pub fits_front : (l : List ℕ) (m : Nums) → m.wait_len ≤ 256 → fits l 0 m ≡ leb (fill_nums l m).wait_len 256
unfolding fits_for
fits_front l m h =
    split_eq m.held_len 0
    (λ none.
    let e : 0 + 1 - m.held_len ≡ 1 = omega arith in
    ap (λ (k : ℕ). fits_for l k m) e ∙ both_true (leb (gather_nums l m).wait_len 256) ∙ sym (rw (eq-eqb m.held_len 0 none)))
    (λ some.
    let e : 0 + 1 - m.held_len ≡ 0 = omega arith in
    ap (λ (k : ℕ). fits_for l k m) e ∙ sym (rw (ne_eqb m.held_len 0 some, le-leb m.wait_len 256 h)))

module _ (l : List ℕ) (kind before n : ℕ) (st : State) where
  abbrev f₀ : State
  f₀ = fill l 0 st

  pub plan_full : fits l 0 st.nums ≡ false → plan_of l kind before n st ≡ Err WaitingFull
  unfolding plan_of
  plan_full e = rw e

  pub run_stop : goes_on l kind f₀.nums f₀.held ≡ false → (k : ℕ) → run_of l kind k f₀ ≡ stops f₀
  unfolding run_of
  run_stop e zero = refl
  run_stop e (suc k) = rw e

  module _ (fit : fits l 0 st.nums ≡ true) where
    pub plan_stop : goes_on l kind f₀.nums f₀.held ≡ false
        → plan_of l kind before n st ≡ pick (both (eqb kind 67) (eqb f₀.nums.held_len 0)) (Err StoreShort) (Ok (before + 0))
    unfolding plan_of
    plan_stop e = rw (fit, run_stop e n)

    pub plan_go : goes_on l kind f₀.nums f₀.held ≡ true → 0 < n → plan_of l kind before n st ≡ plan_of l kind (before + (white_of f₀ + 1)) (n - 1) (bumped f₀)
    unfolding plan_of run_of
    plan_go e h =
        let r = run_of l kind (n - 1) (fill l 0 (bumped f₀)) in
        let one : n ≡ suc (n - 1) = omega arith in
        let sum : before + (white_of f₀ + 1 + r.count) ≡ before + (white_of f₀ + 1) + r.count = omega arith in
        ap (λ (k : ℕ). plan_of l kind before k st) one ∙ rw (fit, e, sum)
