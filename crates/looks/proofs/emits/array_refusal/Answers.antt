use mathlib.Core.Path.{sym, ◌∙◌}
use native.Mathlib.Omega.{arith}
use borrow.Author.Tests.{eq-eqb, ne_eqb}
use Rattle.looks.specs.Calls.{array_refusal}
use Rattle.looks.proofs.emits.array_refusal.Goals as goal

pub returns-then-n-gt0 : goal.returns-then-n-gt0
unfolding array_refusal
returns-then-n-gt0 c = rw (ne_eqb c.args.n 0 (λ z. omega (arith, c.if-n-gt0.true))) c.fill_refusal.ensures

pub returns-then-not-sound : goal.returns-then-not-sound
unfolding array_refusal
returns-then-not-sound c = rw (eq-eqb c.args.n 0 (omega (arith, c.if-n-gt0.false)), sym c.sound.ensures.0 ∙ c.if-not-sound.true)

pub returns : goal.returns
unfolding array_refusal
returns c = rw (eq-eqb c.args.n 0 (omega (arith, c.if-n-gt0.false)), sym c.sound.ensures.0 ∙ c.if-not-sound.false)
