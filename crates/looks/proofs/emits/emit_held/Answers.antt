use Prim.Native.Nat.{ℕ, ◌+◌, ◌-◌, ◌*◌}
use mathlib.Core.Path.{◌≡◌, sym, ap, ◌∙◌, subst}
use native.Mathlib.Omega.{arith}
use Prim.Native.Nat.{◌<◌}
use mathlib.Core.List.{◌++◌}
use lib.Seq.{sets}
use Rattle.looks.proofs.Advances.{Advancing, advancing_end, advancing_more, advancing_room}
use Rattle.looks.specs.Buffer.{State, nums_of, ring_at, view_of, words_of}
use Rattle.looks.specs.Calls.{with_nums}
use Rattle.looks.specs.Front.{less_held, less_waiting, nth_of, wait_words}
use Rattle.ahead.specs.declared.Nums.{Nums}
use Rattle.looks.proofs.emits.emit_held.Goals as goal

pub emit_front-requires : goal.emit_front-requires
emit_front-requires c =
    let st = view_of c.args.state.now in
    let now = c.loop.state in
    let m = nums_of now.nums in
    let rings = c.loop.invariant.1 in
    let left = c.args.n - c.loop.counter in
    let go = c.loop-test.true in
    let more : 0 < left = omega arith in
    let white = c.count_before-white.ensures ∙ ap (λ (f : State). ring_at 8 f.counts m.held_at 0) rings in
    advancing_room c.args.list.now c.args.n st c.args.out.now c.loop.out m c.loop.at left c.loop.invariant.0 more _ white

pub loop-preserved : goal.loop-preserved
loop-preserved c =
    let st = view_of c.args.state.now in
    let now = c.loop.state in
    let m = nums_of now.nums in
    let rings = c.loop.invariant.1 in
    let left = c.args.n - c.loop.counter in
    let go = c.loop-test.true in
    let more : 0 < left = omega arith in
    let white = c.count_before-white.ensures ∙ ap (λ (f : State). ring_at 8 f.counts m.held_at 0) rings in
    let e : left - 1 ≡ c.args.n - (c.loop.counter + 1) = omega arith in
    let x = less_held (less_waiting c.count_before-white.result m) in
    let words = c.nth_words-words.ensures ∙ ap (nth_of c.args.list.now 0) rings in
    let em = ap (λ (f : State). f.nums) c.emit_front.ensures.0 in
    let eo = c.emit_front.ensures.1 ∙ ap (λ (f : State). sets c.loop.out c.loop.at (wait_words c.count_before-white.result c.args.list.now f.waiting m.wait_at ++ words_of c.nth_words-words.result)) rings in
    rw c.wide.ensures.0 (subst (λ (k : ℕ). Advancing c.args.list.now c.args.n st c.args.out.now c.emit_front.new.out (nums_of c.emit_front.new.state.nums) (c.loop.at + (c.count_before-white.result * 3 + 3)) k) e (advancing_more c.args.list.now c.args.n st c.args.out.now c.loop.out m c.loop.at left c.loop.invariant.0 more _ white _ _ _ words em eo), c.emit_front.ensures.0 ∙ ap (with_nums x) rings ∙ ap (λ (k : Nums). with_nums k st) (sym em))

pub returns : goal.returns
returns c =
    let st = view_of c.args.state.now in
    let now = c.loop.state in
    let m = nums_of now.nums in
    let rings = c.loop.invariant.1 in
    let left = c.args.n - c.loop.counter in
    let w = advancing_end c.args.list.now c.args.n st c.args.out.now c.loop.out m c.loop.at left c.loop.invariant.0 (let h = c.loop-test.false in omega arith) in
    (rings ∙ w.0, w.1)
