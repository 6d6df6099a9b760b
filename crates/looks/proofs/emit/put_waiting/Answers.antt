use Prim.Native.Nat.{ℕ, ◌+◌, ◌*◌}
use mathlib.Core.Path.{ap, ◌∙◌}
use lib.Seq.{sets}
use lib.ListN.{get_or}
use Rattle.looks.proofs.Stores.{puts_end, puts_more}
use Rattle.looks.specs.Front.{wait_words}
use Rattle.looks.specs.Numbered.{token_at}
use Rattle.looks.proofs.emit.put_waiting.Goals as goal

pub loop-i-preserved : goal.loop-i-preserved
loop-i-preserved c = puts_more c.args.list.now c.args.state.now.waiting c.args.out.now c.wide-from.result c.args.count c.args.at c.loop-i.out c.loop-i.i c.loop-i.invariant c.loop-i-test.true _ (c.put_words.ensures ∙ ap (sets c.loop-i.out (c.args.at + c.loop-i.i * 3)) (c.token_at-words.ensures ∙ ap (λ (s : ℕ). token_at c.args.list.now (get_or c.args.state.now.waiting s 0)) c.slot.ensures))

pub returns : goal.returns
returns c = puts_end c.args.list.now c.args.state.now.waiting c.args.out.now c.wide-from.result c.args.count c.args.at c.loop-i.out c.loop-i.i c.loop-i.invariant c.loop-i-test.false ∙ ap (λ (k : ℕ). sets c.args.out.now c.args.at (wait_words c.args.count c.args.list.now c.args.state.now.waiting k)) c.wide-from.ensures.0
