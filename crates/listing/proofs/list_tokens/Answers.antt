use Rattle.std.specs.Prelude.{Err}
use Rattle.listing.specs.declared.Stopped.{Stopped}
use Rattle.listing.specs.Listing.{listed_up_to}
use mathlib.Core.Path.{ap, ◌∙◌}
use native.Mathlib.Omega.{arith}
use Rattle.listing.proofs.Stores.{head_first, list_fin, list_halt, list_more, list_past, list_room, list_short, quick_more, quick_past, quick_room, quick_short}
use Rattle.listing.proofs.list_tokens.Goals as goal

pub loop-end-init : goal.loop-end-init
loop-end-init c = head_first _ _ _

pub overflow_sub-store : goal.overflow_sub-store
overflow_sub-store c = c.loop-end.invariant.in_store

pub shape_of-store-then-store-n-lt-ROW : goal.shape_of-store-then-store-n-lt-ROW
shape_of-store-then-store-n-lt-ROW c = c.loop-end.invariant.same

pub returns-then-store-n-lt-ROW : goal.returns-then-store-n-lt-ROW
returns-then-store-n-lt-ROW c = let w = quick_short c.args.reading c.args.s.now c.args.store.now c.loop-end.store c.loop-end.at c.loop-end.n c.loop-end.count c.loop-end.invariant c.quick_token-quick.result c.quick_token-quick.ensures c.if-quick-ne0.true c.if-store-n-lt-ROW.true in (ap (λ (x : Stopped). Err x) c.no_room.ensures ∙ w.0, w.1)

pub put-requires : goal.put-requires
put-requires c = (omega (arith, c.loop-end.invariant), omega (arith, c.loop-end.invariant, c.requires), omega (arith, quick_room c.args.reading c.args.s.now c.args.store.now c.loop-end.store c.loop-end.at c.loop-end.n c.loop-end.count c.loop-end.invariant c.quick_token-quick.result c.quick_token-quick.ensures c.if-quick-ne0.true, c.requires))

pub overflow_add-n : goal.overflow_add-n
overflow_add-n c = omega (arith, c.loop-end.invariant, c.requires, c.well_formed)

pub overflow_add-count : goal.overflow_add-count
overflow_add-count c = omega (arith, c.loop-end.invariant, c.requires, c.well_formed)

pub loop-end-smaller-then-quick-ne0 : goal.loop-end-smaller-then-quick-ne0
loop-end-smaller-then-quick-ne0 c = omega (arith, quick_past c.args.reading c.args.s.now c.args.store.now c.loop-end.store c.loop-end.at c.loop-end.n c.loop-end.count c.loop-end.invariant c.quick_token-quick.result c.quick_token-quick.ensures c.if-quick-ne0.true, quick_room c.args.reading c.args.s.now c.args.store.now c.loop-end.store c.loop-end.at c.loop-end.n c.loop-end.count c.loop-end.invariant c.quick_token-quick.result c.quick_token-quick.ensures c.if-quick-ne0.true)

pub loop-end-preserved-then-quick-ne0 : goal.loop-end-preserved-then-quick-ne0
loop-end-preserved-then-quick-ne0 c = quick_more c.args.reading c.args.s.now c.args.store.now c.loop-end.store c.loop-end.at c.loop-end.n c.loop-end.count c.loop-end.invariant c.quick_token-quick.result c.quick_token-quick.ensures c.if-quick-ne0.true _ c.put.ensures c.if-store-n-lt-ROW.false

pub shape_of-store-in_default : goal.shape_of-store-in_default
shape_of-store-in_default c = c.loop-end.invariant.same

pub returns-in_default : goal.returns-in_default
returns-in_default c = list_halt c.args.reading c.args.s.now c.args.store.now c.loop-end.store c.loop-end.at c.loop-end.n c.loop-end.count c.loop-end.invariant c.next_token-answer.result c.next_token-answer.ensures c.unwrap_err.result c.unwrap_err.ensures

pub shape_of-store-then-end-at : goal.shape_of-store-then-end-at
shape_of-store-then-end-at c = c.loop-end.invariant.same

pub returns-then-end-at : goal.returns-then-end-at
returns-then-end-at c = list_fin c.args.reading c.args.s.now c.args.store.now c.loop-end.store c.loop-end.at c.loop-end.n c.loop-end.count c.loop-end.invariant c.next_token-answer.result c.next_token-answer.ensures c.in-Ok.token c.in-Ok.is c.if-end-at.true

pub overflow_sub-store-else-quick-ne0 : goal.overflow_sub-store-else-quick-ne0
overflow_sub-store-else-quick-ne0 c = c.loop-end.invariant.in_store

pub shape_of-store-then-store-n-lt-ROW-2 : goal.shape_of-store-then-store-n-lt-ROW-2
shape_of-store-then-store-n-lt-ROW-2 c = c.loop-end.invariant.same

pub returns-then-store-n-lt-ROW-2 : goal.returns-then-store-n-lt-ROW-2
returns-then-store-n-lt-ROW-2 c = let w = list_short c.args.reading c.args.s.now c.args.store.now c.loop-end.store c.loop-end.at c.loop-end.n c.loop-end.count c.loop-end.invariant c.next_token-answer.result c.next_token-answer.ensures c.in-Ok.token c.in-Ok.is c.if-end-at.false c.if-store-n-lt-ROW-2.true in (ap (λ (x : Stopped). Err x) c.no_room-then-store-n-lt-ROW-2.ensures ∙ w.0, w.1)

pub put-requires-else-quick-ne0 : goal.put-requires-else-quick-ne0
put-requires-else-quick-ne0 c = (omega (arith, c.loop-end.invariant), omega (arith, c.loop-end.invariant, c.requires), omega (arith, list_room c.args.reading c.args.s.now c.args.store.now c.loop-end.store c.loop-end.at c.loop-end.n c.loop-end.count c.loop-end.invariant c.next_token-answer.result c.next_token-answer.ensures c.in-Ok.token c.in-Ok.is c.if-end-at.false, c.requires))

pub overflow_add-n-else-quick-ne0 : goal.overflow_add-n-else-quick-ne0
overflow_add-n-else-quick-ne0 c = omega (arith, c.loop-end.invariant, c.requires, c.well_formed)

pub overflow_add-count-else-quick-ne0 : goal.overflow_add-count-else-quick-ne0
overflow_add-count-else-quick-ne0 c = omega (arith, c.loop-end.invariant, c.requires, c.well_formed)

pub loop-end-smaller : goal.loop-end-smaller
loop-end-smaller c = omega (arith, list_past c.args.reading c.args.s.now c.args.store.now c.loop-end.store c.loop-end.at c.loop-end.n c.loop-end.count c.loop-end.invariant c.next_token-answer.result c.next_token-answer.ensures c.in-Ok.token c.in-Ok.is c.if-end-at.false, list_room c.args.reading c.args.s.now c.args.store.now c.loop-end.store c.loop-end.at c.loop-end.n c.loop-end.count c.loop-end.invariant c.next_token-answer.result c.next_token-answer.ensures c.in-Ok.token c.in-Ok.is c.if-end-at.false)

pub loop-end-preserved : goal.loop-end-preserved
loop-end-preserved c = list_more c.args.reading c.args.s.now c.args.store.now c.loop-end.store c.loop-end.at c.loop-end.n c.loop-end.count c.loop-end.invariant c.next_token-answer.result c.next_token-answer.ensures c.in-Ok.token c.in-Ok.is c.if-end-at.false c.number_of.result c.number_of.ensures _ c.put-else-quick-ne0.ensures c.if-store-n-lt-ROW-2.false
