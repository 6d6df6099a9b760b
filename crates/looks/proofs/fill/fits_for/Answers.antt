use Prim.Native.Nat.{ℕ, ◌+◌, ◌-◌}
use mathlib.Core.Path.{◌≡◌, sym, ap₂, ◌∙◌, subst}
use native.Mathlib.Omega.{arith}
use Prim.Native.Nat.{◌<◌}
use Rattle.looks.proofs.Gathers.{Filling, filling_more, filling_to, fits_dropped, fits_end, fits_full, fits_more}
use Rattle.looks.specs.Buffer.{fits_for, gather_nums, gather_to}
use Rattle.looks.proofs.fill.fits_for.Goals as goal

pub returns-then-nums-eq0 : goal.returns-then-nums-eq0
returns-then-nums-eq0 c = sym (fits_dropped c.args.list.now c.args.times c.args.nums c.if-nums-eq0.true c.requires.3)

pub gather_to-n-requires : goal.gather_to-n-requires
gather_to-n-requires c =
    let left = c.args.times - c.loop.counter in
    let go = c.loop-test.true in
    let more : 0 < left = omega arith in
    let n = c.loop.n in
    let inv = c.loop.invariant in
    (rw c.next_dark.ensures (filling_to c.args.list.now left n inv.0).0, inv.0.roomy)

pub returns-then-n-gt256 : goal.returns-then-n-gt256
returns-then-n-gt256 c =
    let left = c.args.times - c.loop.counter in
    let go = c.loop-test.true in
    let more : 0 < left = omega arith in
    let n = c.loop.n in
    let inv = c.loop.invariant in
    let next = c.gather_to-n.ensures ∙ ap₂ (λ (p k : ℕ). gather_to p k n) c.next_dark.ensures c.count_of-count.ensures in
    sym (fits_full c.args.list.now left more n (rw next at c.if-n-gt256.true)) ∙ inv.1

pub loop-preserved : goal.loop-preserved
loop-preserved c =
    let left = c.args.times - c.loop.counter in
    let go = c.loop-test.true in
    let more : 0 < left = omega arith in
    let n = c.loop.n in
    let inv = c.loop.invariant in
    let next = c.gather_to-n.ensures ∙ ap₂ (λ (p k : ℕ). gather_to p k n) c.next_dark.ensures c.count_of-count.ensures in
    let e : left - 1 ≡ c.args.times - (c.loop.counter + 1) = omega arith in
    rw next (subst (λ (k : ℕ). Filling c.args.list.now k (gather_nums c.args.list.now n) × (fits_for c.args.list.now k (gather_nums c.args.list.now n) ≡ fits_for c.args.list.now c.args.times c.args.nums)) e (filling_more c.args.list.now left n inv.0 more, sym (fits_more c.args.list.now left more n (rw next at c.if-n-gt256.false)) ∙ inv.1))

pub returns : goal.returns
returns c =
    let left = c.args.times - c.loop.counter in
    sym (fits_end c.args.list.now left c.loop.n (let h = c.loop-test.false in omega arith)) ∙ c.loop.invariant.1
