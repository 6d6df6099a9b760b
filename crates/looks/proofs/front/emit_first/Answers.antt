use Prim.Native.Nat.{ℕ}
use mathlib.Core.Path.{sym, ap, ◌∙◌}
use mathlib.Core.List.{◌++◌}
use lib.Seq.{sets}
use Rattle.looks.proofs.Six.{less_none}
use Rattle.looks.specs.Buffer.{nums_of, view_of, words_of}
use Rattle.looks.specs.Calls.{with_nums}
use Rattle.looks.specs.Front.{less_held, wait_words}
use Rattle.ahead.specs.declared.Nums.{Nums}
use Rattle.looks.proofs.front.emit_first.Goals as goal

pub returns-then-white-eq0 : goal.returns-then-white-eq0
unfolding wait_words
returns-then-white-eq0 c = (c.take_held.ensures ∙ sym (ap (λ (m : Nums). with_nums (less_held m) (view_of c.args.state.now)) (less_none (nums_of c.args.state.now.nums) c.requires.1 _ c.if-white-eq0.true)), c.put_words.ensures ∙ sym (ap (λ (k : ℕ). sets c.args.out.now 0 (wait_words k c.args.list.now c.args.state.now.waiting (nums_of c.args.state.now.nums).wait_at ++ (words_of c.args.words))) c.if-white-eq0.true))
