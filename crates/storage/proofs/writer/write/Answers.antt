use Rattle.std.specs.Prelude.{Err, Ok}
use Rattle.std.proofs.lemmas.Result.{err_from_is_err_and}
use Rattle.token.specs.declared.read.Refusal.{Refusal}
use Prim.Native.Nat.{◌/◌}
use mathlib.Core.Path.{sym, ap, ◌∙◌}
use native.Mathlib.Omega.{arith}
use lib.Seq.{sets}
use lib.ListN.{length}
use Rattle.rows.proofs.Puts.{stored_done, stored_faulty, stored_short}
use Rattle.rows.proofs.Rows.{list_sound}
use Rattle.rows.specs.Rows.{list_check, list_rows, word_row}
use Rattle.storage.proofs.WrittenRecords.{length_records}
use Rattle.storage.specs.Writer.{records_of, write_of, written_by}
use Rattle.storage.proofs.writer.write.Goals as goal

pub returns-then-out-records : goal.returns-then-out-records
unfolding write_of written_by
returns-then-out-records c = let w = stored_short (length c.args.out.now) (list_check c.args.list.now) (records_of (list_rows c.args.list.now)) (sym c.in_ok-check_list.ensures) (omega (arith, (length_records word_row 3 (length c.args.list.now / 3) c.args.list.now), c.if-out-records.true)) in (ap Err c.point.ensures ∙ w.0, ap (sets c.args.out.now 0) w.1)

pub put_records-requires : goal.put_records-requires
put_records-requires c = ((list_sound c.args.list.now (sym c.in_ok-check_list.ensures)).0, omega (arith, (length_records word_row 3 (length c.args.list.now / 3) c.args.list.now), c.if-out-records.false))

pub returns-in_err-check_list : goal.returns-in_err-check_list
unfolding write_of written_by
returns-in_err-check_list c = let q = err_from_is_err_and _ c.from_residual.ensures.1 in let w = stored_faulty (length c.args.out.now) (list_check c.args.list.now) (records_of (list_rows c.args.list.now)) _ (sym c.in_err-check_list.ensures) in (q.1 ∙ ap (λ (r : Refusal). Err r) q.2 ∙ w.0, ap (sets c.args.out.now 0) w.1)

pub returns : goal.returns
unfolding write_of written_by
returns c = let w = stored_done (length c.args.out.now) (list_check c.args.list.now) (records_of (list_rows c.args.list.now)) (sym c.in_ok-check_list.ensures) (omega (arith, (length_records word_row 3 (length c.args.list.now / 3) c.args.list.now), c.if-out-records.false)) in (ap Ok (sym (length_records word_row 3 (length c.args.list.now / 3) c.args.list.now)) ∙ w.0, c.put_records.ensures ∙ ap (sets c.args.out.now 0) w.1)
