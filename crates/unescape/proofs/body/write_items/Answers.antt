use Prim.Native.Nat.{ℕ, ◌+◌, ◌-◌}
use mathlib.Core.Path.{◌≡◌, refl, ap}
use mathlib.Core.List.{List, [], ◌∷◌}
use native.Mathlib.Omega.{arith}
use Rattle.escapes.specs.declared.Escape.{Escape}
use Rattle.items.proofs.Lands.{place_of}
use Rattle.runs.proofs.Shorts.{short_some}
use Rattle.runs.specs.Runs.{begins_of, item_in}
use Rattle.text.specs.Utf8.{rest}
use Rattle.unescape.proofs.Passes.{Writing, room_next, room_run, writing_first, writing_next, writing_run, writing_same, written_bad, written_end}
use Rattle.unescape.proofs.Stretches.{Begun, Stretch, begun_here, stretch_short}
use Rattle.unescape.proofs.body.write_items.Goals.{After-copy_run-p, Else-s-p, Then-short-limit}
use Rattle.unescape.proofs.body.write_items.Goals as goal

-- what is written at the end of the run
run : (c : After-copy_run-p) → Writing c.args.form c.args.s.now c.args.out.now c.copy_run-p.new.out c.copy_run-p.result (c.loop-form.n + (c.copy_run-p.result - c.loop-form.at))
run c = writing_run c.args.form c.args.s.now _ _ c.loop-form.at c.loop-form.n c.loop-form.invariant c.copy_run-p.ensures.end c.copy_run-p.ensures.bytes

-- an escape of two bytes there
short : (c : Then-short-limit) → Stretch c.args.form c.args.s.now c.copy_run-p.result (c.copy_run-p.result + 2) (item_in c.short_escape-short.result ∷ [])
short c = stretch_short c.args.form c.args.s.now c.copy_run-p.result c.escaped_at.ensures c.short_escape-short.ensures c.short_limit-limit.ensures c.is_template.ensures c.if-short-limit.true

-- .. and any other
other : (c : Else-s-p) {o q : List ℕ} {n : ℕ} → Writing c.args.form c.args.s.now o q c.copy_run-p.result n → (e : Escape) → e ≡ begins_of c.args.form (rest c.args.s.now c.copy_run-p.result) c.copy_run-p.result → Begun c.args.form c.args.s.now c.copy_run-p.result e
other c m e q = begun_here c.args.form c.args.s.now c.copy_run-p.result c.if-s-p.false m.sound e q

pub loop-form-init : goal.loop-form-init
loop-form-init c = writing_first _ _ _ c.requires

pub copy_run-p-requires : goal.copy_run-p-requires
copy_run-p-requires c = room_run _ _ _ _ _ _ c.loop-form.invariant

pub overflow_sub-n : goal.overflow_sub-n
overflow_sub-n c = omega (arith, c.copy_run-p.ensures.end)

pub overflow_add-n : goal.overflow_add-n
overflow_add-n c = let i = run (goal.at.overflow_add-n c).After-copy_run-p in omega (arith, i.room)

pub shape_of-out-then-s-p : goal.shape_of-out-then-s-p
shape_of-out-then-s-p c = (run (goal.at.shape_of-out-then-s-p c).After-copy_run-p).size

pub returns-then-s-p : goal.returns-then-s-p
returns-then-s-p c = written_end _ _ _ _ _ _ (run (goal.at.returns-then-s-p c).After-copy_run-p) c.if-s-p.true

pub overflow_sub-out : goal.overflow_sub-out
overflow_sub-out c = omega (arith, short_some c.escaped_at.result, c.short_escape-short.ensures)

pub bounds-out-n : goal.bounds-out-n
bounds-out-n c =
    let a = goal.at.bounds-out-n c in
    omega (arith, room_next _ _ _ _ _ _ (run a.After-copy_run-p) _ _ (short a.Then-short-limit))

pub overflow_add-n-then-short-limit : goal.overflow_add-n-then-short-limit
overflow_add-n-then-short-limit c =
    let a = goal.at.overflow_add-n-then-short-limit c in
    omega (arith, room_next _ _ _ _ _ _ (run a.After-copy_run-p) _ _ (short a.Then-short-limit))

pub overflow_add-at : goal.overflow_add-at
overflow_add-at c =
    let a = goal.at.overflow_add-at c in
    omega (arith, (short a.Then-short-limit).inside (run a.After-copy_run-p).inside)

pub loop-form-smaller-then-short-limit : goal.loop-form-smaller-then-short-limit
loop-form-smaller-then-short-limit c =
    let a = goal.at.loop-form-smaller-then-short-limit c in
    omega (arith, (short a.Then-short-limit).inside (run a.After-copy_run-p).inside, c.copy_run-p.ensures.end)

pub loop-form-preserved-then-short-limit : goal.loop-form-preserved-then-short-limit
loop-form-preserved-then-short-limit c =
    let a = goal.at.loop-form-preserved-then-short-limit c in
    writing_next _ _ _ _ _ _ (run a.After-copy_run-p) _ _ (short a.Then-short-limit) _ 1 refl refl

pub put_item-n-requires : goal.put_item-n-requires
put_item-n-requires c =
    let a = goal.at.put_item-n-requires c in
    let m = run a.After-copy_run-p in
    let b = other a.Else-s-p m _ (c.long_at-long.ensures c.if-long-gt0.true) in
    (b.byte _ _ refl, room_next _ _ _ _ _ _ m _ _ (b.item _ _ refl))

pub overflow_add-n-then-long-gt0 : goal.overflow_add-n-then-long-gt0
overflow_add-n-then-long-gt0 c =
    let a = goal.at.overflow_add-n-then-long-gt0 c in
    let m = run a.After-copy_run-p in
    let b = other a.Else-s-p m _ (c.long_at-long.ensures c.if-long-gt0.true) in
    let i = writing_next _ _ _ _ _ _ m _ _ (b.item _ _ refl) _ _ c.put_item-n.ensures.bytes c.put_item-n.ensures.len in
    omega (arith, i.room, i.size)

pub overflow_add-at-then-long-gt0 : goal.overflow_add-at-then-long-gt0
overflow_add-at-then-long-gt0 c =
    let a = goal.at.overflow_add-at-then-long-gt0 c in
    let b = other a.Else-s-p (run a.After-copy_run-p) _ (c.long_at-long.ensures c.if-long-gt0.true) in
    omega (arith, b.room)

pub loop-form-smaller-then-long-gt0 : goal.loop-form-smaller-then-long-gt0
loop-form-smaller-then-long-gt0 c =
    let a = goal.at.loop-form-smaller-then-long-gt0 c in
    let b = other a.Else-s-p (run a.After-copy_run-p) _ (c.long_at-long.ensures c.if-long-gt0.true) in
    omega (arith, b.past, b.room, c.copy_run-p.ensures.end)

pub loop-form-preserved-then-long-gt0 : goal.loop-form-preserved-then-long-gt0
loop-form-preserved-then-long-gt0 c =
    let a = goal.at.loop-form-preserved-then-long-gt0 c in
    let m = run a.After-copy_run-p in
    let b = other a.Else-s-p m _ (c.long_at-long.ensures c.if-long-gt0.true) in
    writing_next _ _ _ _ _ _ m _ _ (b.item _ _ refl) _ _ c.put_item-n.ensures.bytes c.put_item-n.ensures.len

pub put_item-n-requires-in-Item : goal.put_item-n-requires-in-Item
put_item-n-requires-in-Item c =
    let a = goal.at.put_item-n-requires-in-Item c in
    let m = run a.After-copy_run-p in
    let b = other a.Else-s-p m _ c.begin_at.ensures in
    (b.byte _ _ c.in-Item.is, room_next _ _ _ _ _ _ m _ _ (b.item _ _ c.in-Item.is))

pub overflow_add-n-in-Item : goal.overflow_add-n-in-Item
overflow_add-n-in-Item c =
    let a = goal.at.overflow_add-n-in-Item c in
    let m = run a.After-copy_run-p in
    let b = other a.Else-s-p m _ c.begin_at.ensures in
    let i = writing_next _ _ _ _ _ _ m _ _ (b.item _ _ c.in-Item.is) _ _ c.put_item-n-in-Item.ensures.bytes c.put_item-n-in-Item.ensures.len in
    omega (arith, i.room, i.size)

pub loop-form-smaller-in-Item : goal.loop-form-smaller-in-Item
loop-form-smaller-in-Item c =
    let a = goal.at.loop-form-smaller-in-Item c in
    let b = other a.Else-s-p (run a.After-copy_run-p) _ c.begin_at.ensures in
    omega (arith, b.past, b.room, ap place_of c.in-Item.is, c.copy_run-p.ensures.end)

pub loop-form-preserved-in-Item : goal.loop-form-preserved-in-Item
loop-form-preserved-in-Item c =
    let a = goal.at.loop-form-preserved-in-Item c in
    let m = run a.After-copy_run-p in
    let b = other a.Else-s-p m _ c.begin_at.ensures in
    writing_next _ _ _ _ _ _ m _ _ (b.item _ _ c.in-Item.is) _ _ c.put_item-n-in-Item.ensures.bytes c.put_item-n-in-Item.ensures.len

pub loop-form-smaller : goal.loop-form-smaller
loop-form-smaller c =
    let a = goal.at.loop-form-smaller c in
    let b = other a.Else-s-p (run a.After-copy_run-p) _ c.begin_at.ensures in
    omega (arith, b.past, b.room, ap place_of c.in-Skipped.is, c.copy_run-p.ensures.end)

pub loop-form-preserved : goal.loop-form-preserved
loop-form-preserved c =
    let a = goal.at.loop-form-preserved c in
    let m = run a.After-copy_run-p in
    writing_same _ _ _ _ _ _ m _ ((other a.Else-s-p m _ c.begin_at.ensures).skipped _ c.in-Skipped.is)

pub shape_of-out-in-Bad : goal.shape_of-out-in-Bad
shape_of-out-in-Bad c = (run (goal.at.shape_of-out-in-Bad c).After-copy_run-p).size

pub returns-in-Bad : goal.returns-in-Bad
returns-in-Bad c =
    let a = goal.at.returns-in-Bad c in
    let m = run a.After-copy_run-p in
    written_bad _ _ _ _ _ _ m _ _ ((other a.Else-s-p m _ c.begin_at.ensures).bad _ _ c.in-Bad.is)
