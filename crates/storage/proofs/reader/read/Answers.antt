use Rattle.std.specs.Prelude.{Err, Ok}
use Rattle.std.proofs.lemmas.Result.{err_from_is_err_and}
use Rattle.token.specs.declared.read.Refusal.{Refusal}
use Prim.Native.Nat.{◌/◌}
use mathlib.Core.Path.{sym, ap, ◌∙◌}
use native.Mathlib.Omega.{arith}
use lib.Seq.{sets}
use lib.ListN.{length}
use Rattle.rows.proofs.Puts.{stored_done, stored_faulty, stored_short}
use Rattle.storage.proofs.ReadRecords.{bytes_sound, length_tokens}
use Rattle.storage.specs.Reader.{byte_row, bytes_check, list_words, read_by, read_of, stored_rows}
use Rattle.storage.proofs.reader.read.Goals as goal

pub returns-then-out-records : goal.returns-then-out-records
unfolding read_of read_by
returns-then-out-records c = let w = stored_short (length c.args.out.now) (bytes_check c.args.bytes.now) (list_words (stored_rows c.args.bytes.now)) (sym c.in_ok-check_bytes.ensures) (omega (arith, (length_tokens byte_row 11 (length c.args.bytes.now / 11) c.args.bytes.now), c.if-out-records.true)) in (ap Err c.point.ensures ∙ w.0, ap (sets c.args.out.now 0) w.1)

pub put_words-requires : goal.put_words-requires
put_words-requires c = ((bytes_sound c.args.bytes.now (sym c.in_ok-check_bytes.ensures)).0, omega (arith, (length_tokens byte_row 11 (length c.args.bytes.now / 11) c.args.bytes.now), c.if-out-records.false))

pub returns-in_err-check_bytes : goal.returns-in_err-check_bytes
unfolding read_of read_by
returns-in_err-check_bytes c = let q = err_from_is_err_and _ c.from_residual.ensures.1 in let w = stored_faulty (length c.args.out.now) (bytes_check c.args.bytes.now) (list_words (stored_rows c.args.bytes.now)) _ (sym c.in_err-check_bytes.ensures) in (q.1 ∙ ap (λ (r : Refusal). Err r) q.2 ∙ w.0, ap (sets c.args.out.now 0) w.1)

pub returns : goal.returns
unfolding read_of read_by
returns c = let w = stored_done (length c.args.out.now) (bytes_check c.args.bytes.now) (list_words (stored_rows c.args.bytes.now)) (sym c.in_ok-check_bytes.ensures) (omega (arith, (length_tokens byte_row 11 (length c.args.bytes.now / 11) c.args.bytes.now), c.if-out-records.false)) in (ap Ok (sym (length_tokens byte_row 11 (length c.args.bytes.now / 11) c.args.bytes.now)) ∙ w.0, c.put_words.ensures ∙ ap (sets c.args.out.now 0) w.1)
