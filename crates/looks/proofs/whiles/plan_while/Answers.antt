use mathlib.Core.Path.{sym, ap, ◌∙◌, subst}
use native.Mathlib.Omega.{arith}
use mathlib.Core.List.{[]}
use Rattle.looks.proofs.Planning.{fewer, plannable_after, turn_few, turn_full, turn_more, turn_none, turn_other, turning_first}
use Rattle.looks.specs.Buffer.{state_of}
use Rattle.looks.specs.Front.{less_held}
use Rattle.looks.specs.While.{Plannable, while_plan}
use Rattle.ahead.specs.declared.Nums.{Nums}
use Rattle.looks.proofs.whiles.plan_while.Goals as goal

pub loop-front-init : goal.loop-front-init
loop-front-init c =
    let b = subst (λ (k : Nums). Plannable c.args.list.now k c.args.state.now.held c.args.state.now.counts) (sym c.nums-m.ensures) c.requires in
    (b, turning_first c.args.list.now c.args.kind c.args.state.now.held c.args.state.now.counts _ b)

pub returns-then-f-gt256 : goal.returns-then-f-gt256
returns-then-f-gt256 c = turn_full c.args.list.now c.args.kind c.args.state.now.held c.args.state.now.counts c.loop-front.m c.loop-front.invariant.0 _ _ c.front_of-front.ensures.0 _ c.filled_nums-f.ensures _ c.loop-front.count (c.loop-front.invariant.1 c.args.state.now.waiting) c.if-f-gt256.true ∙ ap (λ (k : Nums). while_plan c.args.list.now c.args.kind (state_of k c.args.state.now.held c.args.state.now.counts c.args.state.now.waiting)) c.nums-m.ensures

pub returns-then-f-eq0 : goal.returns-then-f-eq0
returns-then-f-eq0 c = turn_none c.args.list.now c.args.kind c.args.state.now.held c.args.state.now.counts c.loop-front.m c.loop-front.invariant.0 _ _ c.front_of-front.ensures.0 _ c.filled_nums-f.ensures _ c.loop-front.count (c.loop-front.invariant.1 c.args.state.now.waiting) c.if-f-gt256.false c.if-f-eq0.true _ c.at_end.ensures ∙ ap (λ (k : Nums). while_plan c.args.list.now c.args.kind (state_of k c.args.state.now.held c.args.state.now.counts c.args.state.now.waiting)) c.nums-m.ensures

pub returns-then-front-kind : goal.returns-then-front-kind
returns-then-front-kind c = turn_other c.args.list.now c.args.kind c.args.state.now.held c.args.state.now.counts c.loop-front.m c.loop-front.invariant.0 _ _ c.front_of-front.ensures.0 _ c.filled_nums-f.ensures _ c.loop-front.count (c.loop-front.invariant.1 c.args.state.now.waiting) c.if-f-gt256.false c.if-f-eq0.false c.if-front-kind.true ∙ ap (λ (k : Nums). while_plan c.args.list.now c.args.kind (state_of k c.args.state.now.held c.args.state.now.counts c.args.state.now.waiting)) c.nums-m.ensures

pub less_waiting-requires : goal.less_waiting-requires
less_waiting-requires c = turn_few c.args.list.now c.args.kind c.args.state.now.held c.args.state.now.counts c.loop-front.m c.loop-front.invariant.0 _ _ c.front_of-front.ensures.0 _ c.filled_nums-f.ensures

pub overflow_add-count : goal.overflow_add-count
overflow_add-count c =
    let t = c.loop-front.invariant.1 [] in
    let s = t.small in
    let n = t.enough in
    let v = turn_few c.args.list.now c.args.kind c.args.state.now.held c.args.state.now.counts c.loop-front.m c.loop-front.invariant.0 _ _ c.front_of-front.ensures.0 _ c.filled_nums-f.ensures in
    let d = (fewer c.args.list.now c.args.kind c.args.state.now.held c.args.state.now.counts c.loop-front.m c.loop-front.invariant.0 _ _ c.front_of-front.ensures.0 _ c.filled_nums-f.ensures c.if-f-gt256.false c.if-f-eq0.false).0 in
    omega (arith, c.if-f-gt256.false)

pub overflow_add-count-in-loop-front : goal.overflow_add-count-in-loop-front
overflow_add-count-in-loop-front c =
    let t = c.loop-front.invariant.1 [] in
    let s = t.small in
    let n = t.enough in
    let v = turn_few c.args.list.now c.args.kind c.args.state.now.held c.args.state.now.counts c.loop-front.m c.loop-front.invariant.0 _ _ c.front_of-front.ensures.0 _ c.filled_nums-f.ensures in
    let d = (fewer c.args.list.now c.args.kind c.args.state.now.held c.args.state.now.counts c.loop-front.m c.loop-front.invariant.0 _ _ c.front_of-front.ensures.0 _ c.filled_nums-f.ensures c.if-f-gt256.false c.if-f-eq0.false).0 in
    omega (arith, c.if-f-gt256.false)

pub loop-front-smaller : goal.loop-front-smaller
loop-front-smaller c = rw (c.less_held-m.ensures ∙ ap less_held c.less_waiting.ensures) (fewer c.args.list.now c.args.kind c.args.state.now.held c.args.state.now.counts c.loop-front.m c.loop-front.invariant.0 _ _ c.front_of-front.ensures.0 _ c.filled_nums-f.ensures c.if-f-gt256.false c.if-f-eq0.false).0

pub loop-front-preserved : goal.loop-front-preserved
loop-front-preserved c = rw (c.less_held-m.ensures ∙ ap less_held c.less_waiting.ensures) (plannable_after c.args.list.now c.args.kind c.args.state.now.held c.args.state.now.counts c.loop-front.m c.loop-front.invariant.0 _ _ c.front_of-front.ensures.0 _ c.filled_nums-f.ensures c.if-f-gt256.false c.if-f-eq0.false, λ w. turn_more c.args.list.now c.args.kind c.args.state.now.held c.args.state.now.counts c.loop-front.m c.loop-front.invariant.0 _ _ c.front_of-front.ensures.0 _ c.filled_nums-f.ensures _ c.loop-front.count (c.loop-front.invariant.1 w) c.if-f-gt256.false c.if-f-eq0.false c.if-front-kind.false)
