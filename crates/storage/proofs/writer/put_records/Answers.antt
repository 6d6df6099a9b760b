use Prim.Native.Nat.{◌≤◌}
use mathlib.Core.List.{List, map}
use mathlib.Core.Path.{◌≡◌, sym, ap, ◌∙◌, subst}
use native.Mathlib.Omega.{arith}
use lib.Seq.{sets}
use lib.ListN.{length}
use Rattle.rows.proofs.Puts.{puts_end, puts_first, puts_more, puts_room}
use Rattle.rows.specs.Rows.{Row, word_row, list_rows}
use Rattle.storage.proofs.WrittenRecords.{rows_cut, records_layout, record_in}
use Rattle.storage.specs.Writer.{records_of}
use Rattle.storage.proofs.writer.put_records.Goals.{After-as_chunks}
use Rattle.storage.proofs.writer.put_records.Goals as goal

-- the arrays hold the rows
arrays : (c : After-as_chunks) → map word_row c.as_chunks.result.0.now ≡ list_rows c.args.list.now
arrays c = ap (map word_row) c.as_chunks.ensures.front ∙ rows_cut c.args.list.now

pub loop-n-init : goal.loop-n-init
loop-n-init c = puts_first records_of word_row _ _ (subst (λ (rs : List Row). length (records_of rs) ≤ length c.args.out.now) (sym (arrays (goal.at.loop-n-init c).After-as_chunks)) c.requires.1)

pub put_record-requires : goal.put_record-requires
put_record-requires c = omega (arith, puts_room records_of record_in 11 records_layout word_row _ _ _ _ _ c.loop-n.invariant c.loop-n-test.true)

pub loop-n-preserved : goal.loop-n-preserved
loop-n-preserved c = puts_more records_of record_in 11 records_layout word_row _ _ _ _ _ c.loop-n.invariant c.loop-n-test.true _ _ c.put_record.ensures (omega arith)

pub returns : goal.returns
returns c = puts_end records_of record_in 11 records_layout word_row _ _ _ _ _ c.loop-n.invariant c.loop-n-test.false ∙ ap (λ (rs : List Row). sets c.args.out.now 0 (records_of rs)) (arrays (goal.at.returns c).After-as_chunks)
