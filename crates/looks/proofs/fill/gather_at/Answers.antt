use Prim.Native.Nat.{ℕ, ◌+◌}
use mathlib.Core.Path.{◌≡◌, ap₂, ◌∙◌}
use native.Mathlib.Omega.{arith}
use Prim.Native.Nat.{◌%◌}
use lib.ListN.{length}
use Rattle.looks.proofs.Gathers.{lies_last, lies_more}
use Rattle.looks.proofs.fill.gather_at.Goals as goal

pub returns-then-count-to : goal.returns-then-count-to
returns-then-count-to c =
    let six : length c.args.state.now.nums ≡ 6 = omega arith in
    lies_last c.args.to c.args.count c.args.state.now.nums c.args.state.now.held c.args.state.now.counts c.args.state.now.waiting six _ _ _ c.white_at-white.ensures (ap₂ (λ (i j : ℕ). i + j) (c.wide-from.ensures.0 ∙ c.word.ensures) c.wide-3.ensures.0) c.queue.ensures c.if-count-to.true

pub returns : goal.returns
returns c =
    let six : length c.args.state.now.nums ≡ 6 = omega arith in
    lies_more c.args.to c.args.count c.args.state.now.nums c.args.state.now.held c.args.state.now.counts c.args.state.now.waiting six _ _ _ c.white_at-white.ensures (ap₂ (λ (i j : ℕ). i + j) (c.wide-from.ensures.0 ∙ c.word.ensures) c.wide-3.ensures.0) c.queue.ensures c.if-count-to.false _ (ap₂ (λ (i j : ℕ). (i + j) % 8) c.wide.ensures.0 c.wide-2.ensures.0)
