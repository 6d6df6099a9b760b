-- The rules of every mode are sane, and so are rules that pass over another number of scalars after `/*`. Assumes nothing.
use Prim.Native.Nat.{ℕ}
use mathlib.Core.Path.{refl}
use Rattle.classes.specs.Classes.{xid_start}
use Rattle.families.specs.Sane.{Sane, with_skip}
use Rattle.laws.specs.Tables.{in_ranges}
use Rattle.readers.specs.Rules.{Rules, rules_of}
use Rattle.readers.specs.declared.reading.Reading.{Reading}
use Rattle.text.proofs.Decode.{width_pos}

pub reading_sane : (g : Reading) → Sane (rules_of g)
unfolding in_ranges xid_start
reading_sane g = record { steps = width_pos; tick = refl }

pub skip_sane : (R : Rules) → Sane R → (n : ℕ) → Sane (with_skip R n)
skip_sane R s n = record { steps = s.steps; tick = s.tick }
