use mathlib.Core.Path.{sym, ◌∙◌}
use Rattle.looks.proofs.Answers.{filled_yes, refusal_held}
use Rattle.looks.proofs.Fronts.{fill_enough}
use Rattle.looks.proofs.Six.{some_sound}
use Rattle.looks.specs.Buffer.{nums_of, view_of}
use Rattle.looks.proofs.ready.ready_at.Goals as goal

pub returns-then-n-wide : goal.returns-then-n-wide
returns-then-n-wide c =
    let st = view_of c.args.state.now in
    let s = some_sound c.args.tested c.args.list.now (nums_of c.args.state.now.nums) c.args.state.now.held c.args.state.now.counts c.args.state.now.waiting (sym c.some.ensures ∙ c.if-not-some.false) in
    let h = rw c.wide.ensures.0 at c.if-n-wide.true in
    let r = refusal_held c.args.tested c.args.list.now c.args.n st s.0 h in
    (sym r, sym (fill_enough c.args.list.now c.args.n st h) ∙ filled_yes c.args.tested c.args.list.now c.args.n st r)

pub fill_more-requires : goal.fill_more-requires
fill_more-requires c =
    let s = some_sound c.args.tested c.args.list.now (nums_of c.args.state.now.nums) c.args.state.now.held c.args.state.now.counts c.args.state.now.waiting (sym c.some.ensures ∙ c.if-not-some.false) in
    s.0
