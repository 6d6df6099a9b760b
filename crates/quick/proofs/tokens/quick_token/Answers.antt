use native.Mathlib.Omega.{arith}
use Rattle.quick.proofs.Tests.{operator_in}
use Rattle.quick.proofs.tokens.quick_token.Goals as goal

pub overflow_add-end : goal.overflow_add-end
overflow_add-end c = omega (arith, operator_in c.args.s.now c.args.at c.quick_operator-q.result c.quick_operator-q.ensures c.if-q-ne0.true)
