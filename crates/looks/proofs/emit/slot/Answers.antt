use mathlib.Core.Path.{sym}
use Rattle.std.proofs.Math.Nat.{add-mod}
use Rattle.looks.proofs.emit.slot.Goals as goal

pub returns : goal.returns
returns g c = sym (add-mod c.args.at c.args.i g.row.SIZE)
