use mathlib.Core.Path.{sym, ap, ◌∙◌}
use Rattle.std.proofs.lemmas.Result.{err_from_is_err_and}
use Rattle.std.specs.Prelude.{Err}
use Rattle.std.specs.Prelude.{Ok}
use Rattle.looks.proofs.Turns.{zeros}
use Rattle.looks.proofs.Answers.{asked_no, asked_yes}
use Rattle.looks.specs.Buffer.{view_of}
use Rattle.std.specs.Prelude.{Ok}
use Rattle.looks.specs.Calls.{Turn, fill_by, shows}
use Rattle.looks.proofs.show.fill.Goals as goal

pub returns-in_err-filled_at : goal.returns-in_err-filled_at
unfolding fill_by
returns-in_err-filled_at c =
    let st = view_of c.args.state.now in
    let p = err_from_is_err_and c.from_residual.result c.from_residual.ensures.1 in
    let w = asked_no c.args.tested c.args.list.now c.args.n st (shows 0) _ c.filled_at.ensures.1 _ (sym c.filled_at.ensures.0 ∙ c.in_err-filled_at.was) in
    (w.0, p.1 ∙ ap Err p.2 ∙ w.1)

pub returns : goal.returns
unfolding fill_by
returns c =
    let st = view_of c.args.state.now in
    let none = zeros c.default.result c.default.ensures.0 c.default.ensures.1.0 c.default.ensures.1.1.0 c.default.ensures.1.1.1 in
    let w = asked_yes c.args.tested c.args.list.now c.args.n st (shows 0) _ c.filled_at.ensures.1 (sym c.filled_at.ensures.0 ∙ c.in_ok-filled_at.was) in
    (ap (λ (t : Turn). t.state) w, ap Ok none ∙ ap (λ (t : Turn). t.answer) w)
