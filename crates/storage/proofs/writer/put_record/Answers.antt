use mathlib.Core.Path.{◌∙◌}
use native.Mathlib.Omega.{arith}
use lib.ListN.{length-set}
use Rattle.storage.proofs.WrittenRecords.{record_stores}
use Rattle.storage.proofs.writer.put_record.Goals as goal

pub bounds-out-at-2 : goal.bounds-out-at-2
bounds-out-at-2 c = simp length-set (omega arith)

pub bounds-out-at-3 : goal.bounds-out-at-3
bounds-out-at-3 c = simp length-set (omega arith)

pub put_word-requires : goal.put_word-requires
put_word-requires c = simp length-set (omega arith)

pub put_word-requires-2 : goal.put_word-requires-2
put_word-requires-2 c = let k = simp length-set at c.put_word.auto.out in omega arith

pub shape_of-out : goal.shape_of-out
shape_of-out c = c.put_word-2.auto.out ∙ c.put_word.auto.out ∙ simp length-set

pub returns : goal.returns
returns c = record_stores c.args.out.now c.args.at c.args.kind c.args.start c.args.end _ _ c.low_byte.ensures c.put_word.ensures c.put_word-2.ensures
