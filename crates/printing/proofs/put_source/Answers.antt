use Rattle.std.specs.Prelude.{Err}
use Rattle.std.proofs.Common.{sym, ap, ◌∙◌}
use Rattle.std.proofs.lemmas.Result.{err_from_is_err_and}
use Rattle.families.proofs.Refusals.{source_named}
use Rattle.token.specs.declared.read.Refusal.{Refusal}
use Rattle.printing.proofs.put_source.Goals as goal

pub returns-in_err-test_source : goal.returns-in_err-test_source
returns-in_err-test_source g c =
    let q = err_from_is_err_and c.from_residual.result c.from_residual.ensures.1 in
    rw (q.1 ∙ ap (λ (x : Refusal). Err x) q.2) (source_named c.args.s.now _ (sym c.in_err-test_source.ensures))
