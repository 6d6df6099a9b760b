-- The invariant: what is left to gather is the same. Assumes nothing.
use Prim.Native.Nat.{◌-◌}
use mathlib.Core.Path.{◌≡◌}
use Rattle.looks.proofs.Gathers.{Filling}
use Rattle.looks.specs.Buffer.{fits_for}
use Rattle.looks.proofs.fill.fits_for.Given as goal

abbrev pub invariant-loop : goal.invariant-loop
invariant-loop l = Filling l.list (l.times - l.counter) l.n × (fits_for l.list (l.times - l.counter) l.n ≡ fits_for l.list l.times l.initial.n)
