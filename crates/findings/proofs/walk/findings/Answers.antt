use Rattle.std.specs.Prelude.{Err, Ok}
use Rattle.std.proofs.lemmas.Result.{err_from_is_err_and}
use mathlib.Core.Path.{sym, ap, ◌∙◌}
use lib.Seq.{sets}
use lib.ListN.{length}
use Rattle.findings.proofs.Turns.{found_by_test}
use Rattle.listing.specs.declared.Stopped.{Stopped}
use Rattle.source_test.proofs.Places.{sound_inv}
use Rattle.findings.proofs.walk.findings.Goals as goal

pub find_all-requires : goal.find_all-requires
find_all-requires c = (sound_inv c.args.s.now (sym c.in_ok-test_source.ensures)).0

pub returns : goal.returns
returns c = let w = found_by_test c.args.reading c.args.s.now (length c.args.store.now) (Ok tt) c.in_ok-test_source.ensures in (c.find_all.ensures.0 ∙ sym w.0, c.find_all.ensures.1 ∙ sym (ap (sets c.args.store.now 0) w.1))

pub returns-in_err-test_source : goal.returns-in_err-test_source
returns-in_err-test_source c =
    let q = err_from_is_err_and _ c.from_residual.ensures.1 in
    let w = found_by_test c.args.reading c.args.s.now (length c.args.store.now) _ c.in_err-test_source.ensures in
    (q.1 ∙ ap (λ (x : Stopped). Err x) q.2 ∙ sym w.0, sym (ap (sets c.args.store.now 0) w.1))
