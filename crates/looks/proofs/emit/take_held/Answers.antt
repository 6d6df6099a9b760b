use mathlib.Core.Path.{◌≡◌, ap}
use native.Mathlib.Omega.{arith}
use lib.ListN.{get_or, length}
use borrow.Author.Tests.{eq-eqb}
use Rattle.looks.proofs.Six.{took_held}
use Rattle.looks.specs.Buffer.{view_of}
use Rattle.looks.specs.Calls.{with_nums}
use Rattle.looks.specs.Front.{less_held}
use Rattle.ahead.specs.declared.Nums.{Nums}
use Rattle.looks.proofs.emit.take_held.Goals as goal

pub returns-then-len-eq0 : goal.returns-then-len-eq0
unfolding less_held
returns-then-len-eq0 c = rw (eq-eqb (get_or c.args.state.now.nums 3 0) 0 c.if-len-eq0.true)

pub returns : goal.returns
returns c =
    let six : length c.args.state.now.nums ≡ 6 = omega arith in
    ap (λ (m : Nums). with_nums m (view_of c.args.state.now)) (took_held c.args.state.now.nums six _ c.if-len-eq0.false (omega (arith, c.word-at.ensures)))
