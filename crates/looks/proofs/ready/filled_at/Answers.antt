use mathlib.Core.Path.{sym, ◌∙◌}
use Rattle.looks.proofs.Answers.{filled_no, refusal_34}
use Rattle.looks.specs.Buffer.{view_of}
use Rattle.looks.specs.declared.look.Stop.TheVariants.{Faulty}
use Rattle.looks.proofs.ready.filled_at.Goals as goal

pub returns-then-not-sound : goal.returns-then-not-sound
returns-then-not-sound c =
    let st = view_of c.args.state.now in
    let s = sym c.sound.ensures.0 ∙ c.if-not-sound.true in
    let r = refusal_34 c.args.tested c.args.list.now c.args.n st s in
    (sym r, filled_no c.args.tested c.args.list.now c.args.n st Faulty r)
