use Prim.Native.Nat.{ℕ}
use mathlib.Core.Path.{◌≡◌, sym, ap, ap₂, ◌∙◌}
use native.Mathlib.Omega.{arith}
use lib.ListN.{length}
use borrow.Author.Tests.{le-leb, le-ltb, lt-leb, lt-ltb}
use mathlib.Core.Bool.{true, false}
use Rattle.looks.proofs.Sounds.{bounded_inv}
use Rattle.looks.specs.Buffer.{nums_of}
use Rattle.looks.specs.Sound.{ascends_by, count_sum, ordered_by, sound_by}
use Rattle.ahead.specs.declared.Nums.{Nums}
use Rattle.looks.proofs.sound.sound.Goals as goal

pub returns-then-not-bounded : goal.returns-then-not-bounded
unfolding sound_by
returns-then-not-bounded c =
    let sizes : (length c.args.state.now.held ≡ 8) × (length c.args.state.now.counts ≡ 8) = (omega arith, omega arith) in
    (rw (sym c.bounded.ensures ∙ c.if-not-bounded.true), sizes.0, sizes.1)

pub counts_sum-requires : goal.counts_sum-requires
counts_sum-requires c =
    let b = bounded_inv c.args.list.now (nums_of c.args.state.now.nums) (sym c.bounded.ensures ∙ c.if-not-bounded.false) in
    let e = c.nums-nums.ensures in
    let p = ap (λ (m : Nums). m.held_len) e in
    let q = ap (λ (m : Nums). m.held_at) e in
    let r = ap (λ (m : Nums). m.wait_len) e in
    let s = ap (λ (m : Nums). m.wait_at) e in
    (omega (arith, b), omega (arith, b))

pub returns-then-nums-counts_sum : goal.returns-then-nums-counts_sum
unfolding sound_by
returns-then-nums-counts_sum c =
    let e = c.nums-nums.ensures in
    let waits = ap (λ (m : Nums). m.wait_len) e in
    let sum = c.counts_sum.ensures ∙ ap (λ (m : Nums). count_sum c.args.state.now.counts m.held_len m.held_at) e in
    let sizes : (length c.args.state.now.held ≡ 8) × (length c.args.state.now.counts ≡ 8) = (omega arith, omega arith) in
    (rw (sym c.bounded.ensures ∙ c.if-not-bounded.false, sym sum, lt-leb c.counts_sum.result (nums_of c.args.state.now.nums).wait_len (let h = c.if-nums-counts_sum.true in omega arith)), sizes.0, sizes.1)

pub returns-then-tested-gt0 : goal.returns-then-tested-gt0
unfolding sound_by
returns-then-tested-gt0 c =
    let e = c.nums-nums.ensures in
    let waits = ap (λ (m : Nums). m.wait_len) e in
    let sum = c.counts_sum.ensures ∙ ap (λ (m : Nums). count_sum c.args.state.now.counts m.held_len m.held_at) e in
    let sizes : (length c.args.state.now.held ≡ 8) × (length c.args.state.now.counts ≡ 8) = (omega arith, omega arith) in
    (rw (sym c.bounded.ensures ∙ c.if-not-bounded.false, sym sum, le-leb c.counts_sum.result (nums_of c.args.state.now.nums).wait_len (let h = c.if-nums-counts_sum.false in omega arith), lt-ltb 0 c.args.tested c.if-tested-gt0.true), sizes.0, sizes.1)

pub returns-then-not-whole : goal.returns-then-not-whole
unfolding sound_by
returns-then-not-whole c =
    let e = c.nums-nums.ensures in
    let waits = ap (λ (m : Nums). m.wait_len) e in
    let sum = c.counts_sum.ensures ∙ ap (λ (m : Nums). count_sum c.args.state.now.counts m.held_len m.held_at) e in
    let sizes : (length c.args.state.now.held ≡ 8) × (length c.args.state.now.counts ≡ 8) = (omega arith, omega arith) in
    (rw (sym c.bounded.ensures ∙ c.if-not-bounded.false, sym sum, le-leb c.counts_sum.result (nums_of c.args.state.now.nums).wait_len (let h = c.if-nums-counts_sum.false in omega arith), le-ltb 0 c.args.tested c.if-tested-gt0.false, sym c.whole.ensures ∙ c.if-not-whole.true), sizes.0, sizes.1)

pub ascends-requires : goal.ascends-requires
ascends-requires c =
    let b = bounded_inv c.args.list.now (nums_of c.args.state.now.nums) (sym c.bounded.ensures ∙ c.if-not-bounded.false) in
    let e = c.nums-nums.ensures in
    let p = ap (λ (m : Nums). m.held_len) e in
    let q = ap (λ (m : Nums). m.held_at) e in
    let r = ap (λ (m : Nums). m.wait_len) e in
    let s = ap (λ (m : Nums). m.wait_at) e in
    (omega arith, omega (arith, b), omega (arith, b))

pub returns-then-not-ascends : goal.returns-then-not-ascends
unfolding sound_by ordered_by
returns-then-not-ascends c =
    let e = c.nums-nums.ensures in
    let waits = ap (λ (m : Nums). m.wait_len) e in
    let sum = c.counts_sum.ensures ∙ ap (λ (m : Nums). count_sum c.args.state.now.counts m.held_len m.held_at) e in
    let sizes : (length c.args.state.now.held ≡ 8) × (length c.args.state.now.counts ≡ 8) = (omega arith, omega arith) in
    let held_size : length c.args.state.now.held ≡ 8 = omega arith in
    let first = c.ascends.ensures ∙ ap₂ (λ (k : ℕ) (m : Nums). ascends_by false c.args.list.now k c.args.state.now.held m.held_len m.held_at 0 m.next) held_size e in
    (rw (sym c.bounded.ensures ∙ c.if-not-bounded.false, sym sum, le-leb c.counts_sum.result (nums_of c.args.state.now.nums).wait_len (let h = c.if-nums-counts_sum.false in omega arith), le-ltb 0 c.args.tested c.if-tested-gt0.false, sym c.whole.ensures ∙ c.if-not-whole.false, sym first ∙ c.if-not-ascends.true), sizes.0, sizes.1)

pub ascends-requires-2 : goal.ascends-requires-2
ascends-requires-2 c =
    let b = bounded_inv c.args.list.now (nums_of c.args.state.now.nums) (sym c.bounded.ensures ∙ c.if-not-bounded.false) in
    let e = c.nums-nums.ensures in
    let p = ap (λ (m : Nums). m.held_len) e in
    let q = ap (λ (m : Nums). m.held_at) e in
    let r = ap (λ (m : Nums). m.wait_len) e in
    let s = ap (λ (m : Nums). m.wait_at) e in
    (omega arith, omega (arith, b), omega (arith, b))

pub returns : goal.returns
unfolding sound_by ordered_by
returns c =
    let e = c.nums-nums.ensures in
    let waits = ap (λ (m : Nums). m.wait_len) e in
    let sum = c.counts_sum.ensures ∙ ap (λ (m : Nums). count_sum c.args.state.now.counts m.held_len m.held_at) e in
    let sizes : (length c.args.state.now.held ≡ 8) × (length c.args.state.now.counts ≡ 8) = (omega arith, omega arith) in
    let held_size : length c.args.state.now.held ≡ 8 = omega arith in
    let first = c.ascends.ensures ∙ ap₂ (λ (k : ℕ) (m : Nums). ascends_by false c.args.list.now k c.args.state.now.held m.held_len m.held_at 0 m.next) held_size e in
    let wait_size : length c.args.state.now.waiting ≡ 256 = omega arith in
    let second = c.ascends-2.ensures ∙ ap₂ (λ (k : ℕ) (m : Nums). ascends_by true c.args.list.now k c.args.state.now.waiting m.wait_len m.wait_at 0 m.next) wait_size e in
    (rw (sym c.bounded.ensures ∙ c.if-not-bounded.false, sym sum, le-leb c.counts_sum.result (nums_of c.args.state.now.nums).wait_len (let h = c.if-nums-counts_sum.false in omega arith), le-ltb 0 c.args.tested c.if-tested-gt0.false, sym c.whole.ensures ∙ c.if-not-whole.false, sym first ∙ c.if-not-ascends.false) second, sizes.0, sizes.1)
