use Prim.Native.Nat.{ℕ, ◌+◌, ◌-◌}
use mathlib.Core.Path.{◌≡◌, sym, ap, ap₂, ◌∙◌, subst}
use native.Mathlib.Omega.{arith}
use Prim.Native.Nat.{◌<◌}
use Rattle.looks.proofs.Gathers.{gatherable_more, gatherable_to, gathers_end, gathers_more}
use Rattle.looks.specs.Buffer.{Gatherable, State, gather_at, gathers, nums_of, view_of}
use Rattle.ahead.specs.declared.Nums.{Nums}
use Rattle.looks.proofs.fill.gathers_at.Goals as goal

pub gather_at-requires : goal.gather_at-requires
gather_at-requires c =
    let now = view_of c.loop.state in
    let left = c.args.times - c.loop.counter in
    let go = c.loop-test.true in
    let more : 0 < left = omega arith in
    let g = gatherable_to c.args.list.now left more now.nums c.loop.invariant.0 in
    (rw c.next_dark-to.ensures g.0, c.loop.invariant.0.roomy, rw c.next_dark-to.ensures g.1)

pub loop-preserved : goal.loop-preserved
unfolding gather_at
loop-preserved c =
    let now = view_of c.loop.state in
    let left = c.args.times - c.loop.counter in
    let go = c.loop-test.true in
    let more : 0 < left = omega arith in
    let next = c.gather_at.ensures ∙ ap₂ (λ (p k : ℕ). gather_at p k now) c.next_dark-to.ensures c.count_of-count.ensures in
    let e : left - 1 ≡ c.args.times - (c.loop.counter + 1) = omega arith in
    subst (λ (k : ℕ). Gatherable c.args.list.now k (nums_of c.gather_at.new.state.nums) × (gathers c.args.list.now k (view_of c.gather_at.new.state) ≡ gathers c.args.list.now c.args.times (view_of c.args.state.now))) e (subst (λ (n : Nums). Gatherable c.args.list.now (left - 1) n) (sym (ap (λ (a : State). a.nums) next)) (gatherable_more c.args.list.now left more now.nums c.loop.invariant.0), ap (gathers c.args.list.now (left - 1)) next ∙ sym (gathers_more c.args.list.now left more now) ∙ c.loop.invariant.1)

pub returns : goal.returns
returns c =
    let left = c.args.times - c.loop.counter in
    sym (gathers_end c.args.list.now left _ (let h = c.loop-test.false in omega arith)) ∙ c.loop.invariant.1
