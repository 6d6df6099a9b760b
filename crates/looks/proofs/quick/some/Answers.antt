use mathlib.Core.Bool.{true}
use mathlib.Core.Path.{◌≡◌}
use native.Mathlib.Omega.{arith}
use Rattle.looks.proofs.Sounds.{bounded_inv}
use Rattle.looks.specs.Buffer.{nums_of}
use Rattle.looks.specs.Sound.{bounded_by}
use Rattle.looks.proofs.quick.some.Goals.{else-state-gt0, then-state-gt0}
use Rattle.looks.proofs.quick.some.Goals as goal

pub counts_sum-requires : goal.counts_sum-requires
counts_sum-requires c =
    let m = nums_of c.args.state.now.nums in
    let t = c.if-bounded.true in
    let within : bounded_by c.args.list.now m ≡ true =
    elim c.if-state-gt0.branch [
      | then-state-gt0 w ↦ (let v = w.value-is in let e = w.bounded.ensures in cc)
      | else-state-gt0 w ↦ (let v = w.value-is in cc)
    ] in
    let b = bounded_inv c.args.list.now m within in
    (omega (arith, b, c.wide-then-bounded.ensures, c.wide.ensures), omega (arith, b, c.wide-then-bounded.ensures, c.wide.ensures))
