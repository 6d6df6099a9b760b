use Rattle.std.specs.Prelude.{Err}
use Rattle.std.proofs.lemmas.Result.{err_from_is_err_and}
use Rattle.token.specs.declared.read.Refusal.{Refusal}
use mathlib.Core.Path.{refl, sym, ap, ◌∙◌}
use lib.Seq.{sets}
use lib.ListN.{length}
use Rattle.source_test.proofs.Places.{sound_inv}
use Rattle.unescape.proofs.Bodies.{refused_answer, refused_store, source_refused, source_sound}
use Rattle.unescape.specs.Bodies.{Result}
use Rattle.unescape.proofs.body.unescape.Goals as goal

pub unescape_sound-requires : goal.unescape_sound-requires
unescape_sound-requires c = (sound_inv c.args.body.now (sym c.in_ok-test_source.ensures)).1

pub returns : goal.returns
returns c =
    let r = source_sound c.args.form c.args.body.now (length c.args.out.now) _ c.in_ok-test_source.ensures refl in
    record { answer = c.unescape_sound.ensures.answer ∙ sym (ap (λ (r : Result). r.answer) r); bytes = c.unescape_sound.ensures.bytes ∙ sym (ap (λ (r : Result). sets c.args.out.now 0 r.bytes) r) }

pub returns-in_err-test_source : goal.returns-in_err-test_source
returns-in_err-test_source c =
    let q = err_from_is_err_and _ c.from_residual.ensures.1 in
    let r = source_refused c.args.form c.args.body.now (length c.args.out.now) _ c.in_err-test_source.ensures _ refl in
    record { answer = q.1 ∙ ap (λ (r : Refusal). Err r) q.2 ∙ refused_answer _ _ r; bytes = refused_store _ _ _ r }
