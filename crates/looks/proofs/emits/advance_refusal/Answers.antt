use mathlib.Core.Path.{sym, ◌∙◌}
use borrow.Author.Tests.{le-leb, lt-leb}
use Rattle.looks.specs.Buffer.{nums_of}
use Rattle.looks.specs.Calls.{advance_refusal}
use Rattle.looks.proofs.emits.advance_refusal.Goals as goal

pub returns-then-not-sound : goal.returns-then-not-sound
unfolding advance_refusal
returns-then-not-sound c = rw (sym c.sound.ensures.0 ∙ c.if-not-sound.true)

pub returns-then-wide-n : goal.returns-then-wide-n
unfolding advance_refusal
returns-then-wide-n c = rw (sym c.sound.ensures.0 ∙ c.if-not-sound.false, lt-leb c.args.n (nums_of c.args.state.now.nums).held_len (rw c.wide.ensures.0 at c.if-wide-n.true))

pub returns : goal.returns
unfolding advance_refusal
returns c = rw (sym c.sound.ensures.0 ∙ c.if-not-sound.false, le-leb c.args.n (nums_of c.args.state.now.nums).held_len (rw c.wide.ensures.0 at c.if-wide-n.false))
