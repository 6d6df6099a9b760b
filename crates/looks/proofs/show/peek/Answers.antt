use Prim.Native.Nat.{ℕ}
use mathlib.Core.Path.{sym, ap, ◌∙◌}
use Rattle.std.proofs.lemmas.Result.{err_from_is_err_and}
use Rattle.std.specs.Prelude.{Err}
use Rattle.std.specs.Prelude.{Ok}
use Rattle.looks.proofs.Turns.{zeros}
use Rattle.looks.specs.declared.look.Done.{Done}
use Rattle.looks.proofs.Answers.{asked_no, asked_yes}
use Rattle.looks.specs.Buffer.{view_of}
use lib.ListN.{get_or}
use Rattle.looks.specs.Answer.{done}
use Rattle.looks.specs.Calls.{Turn, nth_by, shows}
use Rattle.looks.specs.Front.{nth_of}
use Rattle.looks.proofs.show.peek.Goals as goal

pub returns-in_err-peek_ready : goal.returns-in_err-peek_ready
unfolding nth_by
returns-in_err-peek_ready c =
    let st = view_of c.args.state.now in
    let p = err_from_is_err_and c.from_residual.result c.from_residual.ensures.1 in
    let w = asked_no c.args.tested c.args.list.now 0 st (λ f. shows (get_or (nth_of c.args.list.now 0 f) 0 0) f) _ c.peek_ready.ensures.1 _ (sym c.peek_ready.ensures.0 ∙ c.in_err-peek_ready.was) in
    (w.0, p.1 ∙ ap Err p.2 ∙ w.1)

pub returns : goal.returns
unfolding nth_by
returns c =
    let st = view_of c.args.state.now in
    let none = zeros c.default.result c.default.ensures.0 c.default.ensures.1.0 c.default.ensures.1.1.0 c.default.ensures.1.1.1 in
    let w = asked_yes c.args.tested c.args.list.now 0 st (λ f. shows (get_or (nth_of c.args.list.now 0 f) 0 0) f) _ c.peek_ready.ensures.1 (sym c.peek_ready.ensures.0 ∙ c.in_ok-peek_ready.was) in
    (ap (λ (t : Turn). t.state) w, ap (λ (d : Done). Ok (record { count = d.count; value = c.nth_kind.result; start = d.start; end = d.end })) none ∙ ap (λ (k : ℕ). done 0 k 0 0) c.nth_kind.ensures ∙ ap (λ (t : Turn). t.answer) w)
