use Rattle.std.specs.Prelude.{Err}
use Rattle.std.proofs.lemmas.Result.{err_from_is_err_and}
use Rattle.token.specs.declared.read.Refusal.{Refusal}
use mathlib.Core.Path.{sym, ap, ◌∙◌}
use native.Mathlib.Omega.{arith}
use lib.ListN.{length}
use Rattle.unescape.proofs.Bodies.{read_short, read_stopped, read_wrong, read_wrote, refused_answer, refused_store, whole_is, wrote_answer, wrote_store}
use Rattle.unescape.proofs.body.unescape_sound.Goals as goal

pub measure-requires : goal.measure-requires
measure-requires c = c.requires

pub returns-then-wrong_count : goal.returns-then-wrong_count
returns-then-wrong_count c =
    let r = read_wrong c.args.form c.args.body.now (length c.args.out.now) _ c.in_ok-count.ensures (sym c.wrong_count.ensures ∙ c.if-wrong_count.true) in
    record { answer = c.refuse.ensures ∙ refused_answer _ _ r; bytes = refused_store _ _ _ r }

pub returns-then-out-count : goal.returns-then-out-count
returns-then-out-count c =
    let r = read_short c.args.form c.args.body.now (length c.args.out.now) _ c.in_ok-count.ensures (sym c.wrong_count.ensures ∙ c.if-wrong_count.false) c.if-out-count.true in
    record { answer = c.refuse-then-out-count.ensures ∙ refused_answer _ _ r; bytes = refused_store _ _ _ r }

pub write_items-requires : goal.write_items-requires
write_items-requires c = record { sound = c.requires; faultless = (whole_is c.args.form c.args.body.now (length c.args.out.now) _ c.in_ok-count.ensures).0; enough = omega (arith, (whole_is c.args.form c.args.body.now (length c.args.out.now) _ c.in_ok-count.ensures).1, c.if-out-count.false) }

pub returns-in_err-count : goal.returns-in_err-count
returns-in_err-count c =
    let q = err_from_is_err_and _ c.from_residual.ensures.1 in
    let r = read_stopped c.args.form c.args.body.now (length c.args.out.now) _ c.in_err-count.ensures in
    record { answer = q.1 ∙ ap (λ (r : Refusal). Err r) q.2 ∙ refused_answer _ _ r; bytes = refused_store _ _ _ r }

pub returns : goal.returns
returns c =
    let r = read_wrote c.args.form c.args.body.now (length c.args.out.now) _ c.in_ok-count.ensures (sym c.wrong_count.ensures ∙ c.if-wrong_count.false) c.if-out-count.false in
    record { answer = wrote_answer _ _ _ r (whole_is c.args.form c.args.body.now (length c.args.out.now) _ c.in_ok-count.ensures).1; bytes = wrote_store _ _ _ _ r c.write_items.ensures }
