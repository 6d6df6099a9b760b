use Prim.Native.Nat.{ℕ, ◌+◌}
use mathlib.Core.Path.{sym, ap}
use lib.ListN.{get_or-eq_default, get_or}
use Rattle.numbers.specs.Kinds.{number_of}
use Rattle.operators.specs.Operators.{look_one, look_three, look_two, ones, threes, twos}
use Rattle.quick.specs.Operators.{operator_by, quick_at, quick_of}
use Rattle.quick.proofs.operator.quick_operator.Goals as goal

pub returns-then-s-at : goal.returns-then-s-at
unfolding quick_at quick_of operator_by look_one look_two look_three ones twos threes number_of
returns-then-s-at c = ap (λ (x : ℕ). quick_of x (get_or c.args.s.now (c.args.at + 1) 0) (get_or c.args.s.now (c.args.at + 2) 0)) (sym (get_or-eq_default c.args.s.now 0 c.if-s-at.true))
