use Rattle.runs.proofs.Runs.{bare_end, bare_stop}
use Rattle.unescape.proofs.Passes.{copied, copy_room, copying_first, copying_next}
use Rattle.unescape.proofs.body.copy_run.Goals as goal

pub loop-p-init : goal.loop-p-init
loop-p-init c = copying_first _ _ _ _ c.requires

pub returns-then-b-eq92 : goal.returns-then-b-eq92
returns-then-b-eq92 c = let w = copied _ _ _ _ _ _ _ c.loop-p.invariant (bare_stop c.args.s.now c.loop-p.p c.loop-p-test.true c.if-b-eq92.true) in record { end = w.0; bytes = w.1 }

pub bounds-out-m : goal.bounds-out-m
bounds-out-m c = copy_room _ _ _ _ _ _ _ c.loop-p.invariant c.loop-p-test.true c.if-b-eq92.false

pub loop-p-preserved : goal.loop-p-preserved
loop-p-preserved c = copying_next _ _ _ _ _ _ _ c.loop-p.invariant c.loop-p-test.true c.if-b-eq92.false

pub returns : goal.returns
returns c = let w = copied _ _ _ _ _ _ _ c.loop-p.invariant (bare_end c.args.s.now c.loop-p.p c.loop-p-test.false) in record { end = w.0; bytes = w.1 }
