use mathlib.Core.Path.{◌≡◌, ap}
use native.Mathlib.Omega.{arith}
use lib.ListN.{length}
use Rattle.looks.proofs.Six.{took_waiting}
use Rattle.looks.specs.Buffer.{view_of}
use Rattle.looks.specs.Calls.{with_nums}
use Rattle.ahead.specs.declared.Nums.{Nums}
use Rattle.looks.proofs.emit.take_waiting.Goals as goal

pub returns : goal.returns
returns c =
    let six : length c.args.state.now.nums ≡ 6 = omega arith in
    ap (λ (m : Nums). with_nums m (view_of c.args.state.now)) (took_waiting c.args.state.now.nums six c.args.count _ (omega (arith, c.word-at.ensures)))
