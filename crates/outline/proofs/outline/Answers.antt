use Rattle.std.specs.Prelude.{Err, Ok}
use Rattle.std.proofs.lemmas.Result.{err_from_is_err_and}
use mathlib.Core.Path.{sym, ap, ◌∙◌}
use lib.Seq.{sets}
use lib.ListN.{length}
use Rattle.outline.proofs.Shading.{by_test}
use Rattle.token.specs.declared.read.Refusal.{Refusal}
use Rattle.outline.proofs.outline.Goals as goal

pub shape_of-out : goal.shape_of-out
shape_of-out c = c.outline_fitting.auto.out

pub returns : goal.returns
returns c = let w = by_test c.args.reading c.args.s.now (length c.args.out.now) (Ok tt) c.in_ok-test_source.ensures in (c.outline_fitting.ensures.0 ∙ sym w.0, c.outline_fitting.ensures.1 ∙ sym (ap (sets c.args.out.now 0) w.1))

pub returns-in_err-test_source : goal.returns-in_err-test_source
returns-in_err-test_source c =
    let q = err_from_is_err_and _ c.from_residual.ensures.1 in
    let w = by_test c.args.reading c.args.s.now (length c.args.out.now) _ c.in_err-test_source.ensures in
    (q.1 ∙ ap (λ (r : Refusal). Err r) q.2 ∙ sym w.0, sym (ap (sets c.args.out.now 0) w.1))
