use Prim.Native.Nat.{ℕ, ◌+◌}
use mathlib.Core.Path.{ap, ◌∙◌}
use Prim.Native.Nat.{◌%◌}
use lib.ListN.{get_or}
use borrow.Author.Tests.{le-ltb, lt-ltb}
use Rattle.looks.specs.Front.{nth_words}
use Rattle.looks.specs.Numbered.{token_at}
use Rattle.looks.proofs.emit.nth_words.Goals as goal

pub returns-then-n-wide : goal.returns-then-n-wide
unfolding nth_words
returns-then-n-wide c = rw (lt-ltb c.args.n (get_or c.args.state.now.nums 3 0) (rw c.wide.ensures.0 at c.if-n-wide.true)) (c.token_at.ensures ∙ ap (λ (s : ℕ). token_at c.args.list.now (get_or c.args.state.now.held s 0)) (c.slot.ensures ∙ ap (λ (k : ℕ). (k + c.args.n) % 8) c.wide-then-n-wide.ensures.0))

pub returns : goal.returns
unfolding nth_words
returns c = rw (le-ltb c.args.n (get_or c.args.state.now.nums 3 0) (rw c.wide.ensures.0 at c.if-n-wide.false)) c.eof_words.ensures
