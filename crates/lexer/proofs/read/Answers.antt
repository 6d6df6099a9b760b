use Rattle.std.specs.Prelude.{Err, Ok}
use Rattle.std.proofs.lemmas.Result.{err_from_is_err_and}
use mathlib.Core.Path.{sym, ap, ◌∙◌}
use Rattle.lexer.proofs.Sources.{read_case}
use Rattle.token.specs.declared.read.Refusal.{Refusal}
use Rattle.lexer.proofs.read.Goals as goal

pub returns-in_err-test_position : goal.returns-in_err-test_position
returns-in_err-test_position c =
    let q = err_from_is_err_and _ c.from_residual.ensures.1 in
    q.1 ∙ ap (λ (r : Refusal). Err r) q.2 ∙ sym (read_case c.args.reading c.args.s.now c.args.at (Err _) c.in_err-test_position.ensures)

pub returns : goal.returns
returns c = c.next.ensures ∙ sym (read_case c.args.reading c.args.s.now c.args.at (Ok tt) c.in_ok-test_position.ensures)
