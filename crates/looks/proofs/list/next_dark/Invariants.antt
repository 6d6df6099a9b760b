-- The invariant: the next one from here on is the next one from the start on. Assumes nothing.
use mathlib.Core.Path.{◌≡◌}
use Rattle.looks.specs.Numbered.{dark}
use Rattle.looks.proofs.list.next_dark.Given as goal

abbrev pub invariant-loop-i : goal.invariant-loop-i
invariant-loop-i l = dark l.list l.i ≡ dark l.list l.«from»
