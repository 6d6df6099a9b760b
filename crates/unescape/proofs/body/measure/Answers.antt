use Prim.Native.Nat.{ℕ, ◌+◌, ◌-◌}
use mathlib.Core.Path.{◌≡◌, refl, ap, ◌∙◌}
use native.Mathlib.Omega.{arith}
use Rattle.escapes.specs.declared.Escape.{Escape}
use Rattle.items.proofs.Lands.{place_of}
use Rattle.runs.specs.Runs.{begins_of}
use Rattle.text.specs.Utf8.{rest}
use Rattle.unescape.proofs.Passes.{Measuring, measured_bad, measured_end, measuring_first, measuring_next, measuring_run, measuring_same}
use Rattle.unescape.proofs.Stretches.{Begun, begun_here, stretch_short}
use Rattle.unescape.proofs.body.measure.Goals.{After-run_end-p, Else-s-p, Then-short_escape-limit}
use Rattle.unescape.proofs.body.measure.Goals as goal

-- what is measured at the end of the run
run : (c : After-run_end-p) → Measuring c.args.form c.args.s.now c.run_end-p.result (c.loop-form.count + (c.run_end-p.result - c.loop-form.at))
run c = measuring_run c.args.form c.args.s.now c.loop-form.at c.loop-form.count c.loop-form.invariant c.is_bytes-bytes.ensures c.run_end-p.ensures

-- .. and after an escape of two bytes
short : (c : Then-short_escape-limit) {n : ℕ} → Measuring c.args.form c.args.s.now c.run_end-p.result n → Measuring c.args.form c.args.s.now (c.run_end-p.result + 2) (n + 1)
short c m =
    measuring_next _ _ _ _ m _ _ 1
    (stretch_short c.args.form c.args.s.now c.run_end-p.result c.escaped_at.ensures c.short_escape.ensures c.short_limit-limit.ensures c.is_template.ensures c.if-short_escape-limit.true) refl

-- what begins there
other : (c : Else-s-p) {n : ℕ} → Measuring c.args.form c.args.s.now c.run_end-p.result n → (e : Escape) → e ≡ begins_of c.args.form (rest c.args.s.now c.run_end-p.result) c.run_end-p.result → Begun c.args.form c.args.s.now c.run_end-p.result e
other c m e q = begun_here c.args.form c.args.s.now c.run_end-p.result c.if-s-p.false m.sound e q

pub loop-form-init : goal.loop-form-init
loop-form-init c = measuring_first _ _ c.requires

pub overflow_sub-count : goal.overflow_sub-count
overflow_sub-count c = omega (arith, c.run_end-p.ensures)

pub overflow_add-count : goal.overflow_add-count
overflow_add-count c = let i = run (goal.at.overflow_add-count c).After-run_end-p in omega (arith, i.less, i.inside)

pub returns-then-s-p : goal.returns-then-s-p
returns-then-s-p c = measured_end _ _ _ _ (run (goal.at.returns-then-s-p c).After-run_end-p) c.if-s-p.true

pub overflow_add-count-then-short_escape-limit : goal.overflow_add-count-then-short_escape-limit
overflow_add-count-then-short_escape-limit c =
    let a = goal.at.overflow_add-count-then-short_escape-limit c in
    let i = short a.Then-short_escape-limit (run a.After-run_end-p) in
    omega (arith, i.less, i.inside)

pub overflow_add-at : goal.overflow_add-at
overflow_add-at c =
    let a = goal.at.overflow_add-at c in
    let i = short a.Then-short_escape-limit (run a.After-run_end-p) in
    omega (arith, i.inside)

pub loop-form-smaller-then-short_escape-limit : goal.loop-form-smaller-then-short_escape-limit
loop-form-smaller-then-short_escape-limit c =
    let a = goal.at.loop-form-smaller-then-short_escape-limit c in
    let i = short a.Then-short_escape-limit (run a.After-run_end-p) in
    omega (arith, i.inside, c.run_end-p.ensures)

pub loop-form-preserved-then-short_escape-limit : goal.loop-form-preserved-then-short_escape-limit
loop-form-preserved-then-short_escape-limit c =
    let a = goal.at.loop-form-preserved-then-short_escape-limit c in
    short a.Then-short_escape-limit (run a.After-run_end-p)

pub item_len-count-requires : goal.item_len-count-requires
item_len-count-requires c =
    let a = goal.at.item_len-count-requires c in
    (other a.Else-s-p (run a.After-run_end-p) _ (c.long_at-long.ensures c.if-long-gt0.true)).byte _ _ refl

pub overflow_add-count-then-long-gt0 : goal.overflow_add-count-then-long-gt0
overflow_add-count-then-long-gt0 c =
    let a = goal.at.overflow_add-count-then-long-gt0 c in
    let m = run a.After-run_end-p in
    let i = measuring_next _ _ _ _ m _ _ _ ((other a.Else-s-p m _ (c.long_at-long.ensures c.if-long-gt0.true)).item _ _ refl) c.item_len-count.ensures in
    omega (arith, i.less, i.inside)

pub overflow_add-at-then-long-gt0 : goal.overflow_add-at-then-long-gt0
overflow_add-at-then-long-gt0 c =
    let a = goal.at.overflow_add-at-then-long-gt0 c in
    let b = other a.Else-s-p (run a.After-run_end-p) _ (c.long_at-long.ensures c.if-long-gt0.true) in
    omega (arith, b.room)

pub loop-form-smaller-then-long-gt0 : goal.loop-form-smaller-then-long-gt0
loop-form-smaller-then-long-gt0 c =
    let a = goal.at.loop-form-smaller-then-long-gt0 c in
    let b = other a.Else-s-p (run a.After-run_end-p) _ (c.long_at-long.ensures c.if-long-gt0.true) in
    omega (arith, b.past, b.room, c.run_end-p.ensures)

pub loop-form-preserved-then-long-gt0 : goal.loop-form-preserved-then-long-gt0
loop-form-preserved-then-long-gt0 c =
    let a = goal.at.loop-form-preserved-then-long-gt0 c in
    let m = run a.After-run_end-p in
    measuring_next _ _ _ _ m _ _ _ ((other a.Else-s-p m _ (c.long_at-long.ensures c.if-long-gt0.true)).item _ _ refl) c.item_len-count.ensures

pub item_len-count-requires-in-Item : goal.item_len-count-requires-in-Item
item_len-count-requires-in-Item c =
    let a = goal.at.item_len-count-requires-in-Item c in
    (other a.Else-s-p (run a.After-run_end-p) _ c.begin_at.ensures).byte _ _ c.in-Item.is

pub overflow_add-count-in-Item : goal.overflow_add-count-in-Item
overflow_add-count-in-Item c =
    let a = goal.at.overflow_add-count-in-Item c in
    let m = run a.After-run_end-p in
    let i = measuring_next _ _ _ _ m _ _ _ ((other a.Else-s-p m _ c.begin_at.ensures).item _ _ c.in-Item.is) c.item_len-count-in-Item.ensures in
    omega (arith, i.less, i.inside)

pub loop-form-smaller-in-Item : goal.loop-form-smaller-in-Item
loop-form-smaller-in-Item c =
    let a = goal.at.loop-form-smaller-in-Item c in
    let b = other a.Else-s-p (run a.After-run_end-p) _ c.begin_at.ensures in
    omega (arith, b.past, b.room, ap place_of c.in-Item.is, c.run_end-p.ensures)

pub loop-form-preserved-in-Item : goal.loop-form-preserved-in-Item
loop-form-preserved-in-Item c =
    let a = goal.at.loop-form-preserved-in-Item c in
    let m = run a.After-run_end-p in
    measuring_next _ _ _ _ m _ _ _ ((other a.Else-s-p m _ c.begin_at.ensures).item _ _ c.in-Item.is) c.item_len-count-in-Item.ensures

pub loop-form-smaller : goal.loop-form-smaller
loop-form-smaller c =
    let a = goal.at.loop-form-smaller c in
    let b = other a.Else-s-p (run a.After-run_end-p) _ c.begin_at.ensures in
    omega (arith, b.past, b.room, ap place_of c.in-Skipped.is, c.run_end-p.ensures)

pub loop-form-preserved : goal.loop-form-preserved
loop-form-preserved c =
    let a = goal.at.loop-form-preserved c in
    let m = run a.After-run_end-p in
    measuring_same _ _ _ _ m _ ((other a.Else-s-p m _ c.begin_at.ensures).skipped _ c.in-Skipped.is)

pub returns-in-Bad : goal.returns-in-Bad
returns-in-Bad c =
    let a = goal.at.returns-in-Bad c in
    let m = run a.After-run_end-p in
    c.refuse.ensures ∙ measured_bad _ _ _ _ m _ _ ((other a.Else-s-p m _ c.begin_at.ensures).bad _ _ c.in-Bad.is)
