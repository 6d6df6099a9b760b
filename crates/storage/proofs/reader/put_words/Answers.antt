use Prim.Native.Nat.{◌≤◌, ◌*◌}
use mathlib.Core.List.{List, [], ◌∷◌, map}
use mathlib.Core.Path.{◌≡◌, sym, ap, ◌∙◌, subst}
use native.Mathlib.Omega.{arith}
use lib.Seq.{sets}
use lib.ListN.{length, length-set}
use Rattle.rows.proofs.Puts.{puts_end, puts_first, puts_more, puts_room}
use Rattle.rows.specs.declared.Record.{Record}
use Rattle.rows.specs.Rows.{Row}
use Rattle.storage.proofs.ReadRecords.{records_cut, three_stores, tokens_layout}
use Rattle.storage.specs.Reader.{list_words, byte_row, stored_rows, token_words}
use Rattle.storage.proofs.reader.put_words.Goals.{After-as_chunks}
use Rattle.storage.proofs.reader.put_words.Goals as goal

-- the arrays hold the rows
arrays : (c : After-as_chunks) → map byte_row c.as_chunks.result.0.now ≡ stored_rows c.args.bytes.now
arrays c = ap (map byte_row) c.as_chunks.ensures.front ∙ records_cut c.args.bytes.now

pub loop-n-init : goal.loop-n-init
loop-n-init c = puts_first list_words byte_row _ _ (subst (λ (rs : List Row). length (list_words rs) ≤ length c.args.out.now) (sym (arrays (goal.at.loop-n-init c).After-as_chunks)) c.requires.1)

pub bounds-out-at : goal.bounds-out-at
bounds-out-at c = omega (arith, puts_room list_words token_words 3 tokens_layout byte_row _ _ _ _ _ c.loop-n.invariant c.loop-n-test.true)

pub bounds-out-at-in-loop-n : goal.bounds-out-at-in-loop-n
bounds-out-at-in-loop-n c = let r = puts_room list_words token_words 3 tokens_layout byte_row _ _ _ _ _ c.loop-n.invariant c.loop-n-test.true in simp length-set (omega arith)

pub bounds-out-at-in-loop-n-2 : goal.bounds-out-at-in-loop-n-2
bounds-out-at-in-loop-n-2 c = let r = puts_room list_words token_words 3 tokens_layout byte_row _ _ _ _ _ c.loop-n.invariant c.loop-n-test.true in simp length-set (omega arith)

pub loop-n-preserved : goal.loop-n-preserved
loop-n-preserved c = puts_more list_words token_words 3 tokens_layout byte_row _ _ _ _ _ c.loop-n.invariant c.loop-n-test.true _ _ (three_stores _ _ _ _ _ ∙ ap (λ (t : Record). sets c.loop-n.out (c.loop-n.n * 3) (t.kind ∷ (t.start ∷ (t.end ∷ [])))) c.record_in-kind.ensures) (omega arith)

pub returns : goal.returns
returns c = puts_end list_words token_words 3 tokens_layout byte_row _ _ _ _ _ c.loop-n.invariant c.loop-n-test.false ∙ ap (λ (rs : List Row). sets c.args.out.now 0 (list_words rs)) (arrays (goal.at.returns c).After-as_chunks)
