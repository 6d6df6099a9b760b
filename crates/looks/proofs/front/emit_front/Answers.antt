use Prim.Native.Nat.{ℕ, ◌+◌, ◌*◌}
use mathlib.Core.Path.{ap, ◌∙◌}
use mathlib.Core.List.{List}
use native.Mathlib.Omega.{arith}
use mathlib.Core.List.{◌++◌}
use lib.Seq.{sets}
use Rattle.laws.proofs.Sets.{sets_append}
use Rattle.looks.proofs.Stores.{wait_length}
use Rattle.looks.specs.Buffer.{State, nums_of, words_of}
use Rattle.looks.specs.Calls.{with_nums}
use Rattle.looks.specs.Front.{less_held, wait_words}
use Rattle.looks.proofs.front.emit_front.Goals as goal

pub returns : goal.returns
returns c = (c.take_held.ensures ∙ ap (λ (f : State). with_nums (less_held f.nums) f) c.take_waiting.ensures, c.put_words.ensures ∙ ap (λ (o : List ℕ). sets o (c.args.at + c.wide-count.result * 3) (words_of c.args.words)) c.put_waiting.ensures ∙ sets_append c.args.out.now (wait_words c.wide-count.result c.args.list.now c.args.state.now.waiting (nums_of c.args.state.now.nums).wait_at) (words_of c.args.words) c.args.at (c.args.at + c.wide-count.result * 3) (omega (arith, wait_length c.wide-count.result c.args.list.now c.args.state.now.waiting (nums_of c.args.state.now.nums).wait_at)) ∙ ap (λ (k : ℕ). sets c.args.out.now c.args.at (wait_words k c.args.list.now c.args.state.now.waiting (nums_of c.args.state.now.nums).wait_at ++ (words_of c.args.words))) c.wide-count.ensures.0)
