use mathlib.Core.Path.{refl, sym, ap, ◌∙◌, subst}
use native.Mathlib.Omega.{arith}
use Prim.Native.Nat.{◌<◌}
use lib.Seq.{sets}
use lib.ListN.{length}
use Rattle.looks.proofs.Running.{goes_some, runnable_first, running_end, running_less, running_more, running_next, running_room, white_now}
use Rattle.looks.proofs.Turns.{front_state}
use Rattle.looks.specs.Buffer.{State, fill, nums_of, view_of}
use Rattle.looks.specs.While.{run_of, tokens_left}
use Rattle.looks.proofs.whiles.run_while.Goals as goal

pub emit_front-requires : goal.emit_front-requires
emit_front-requires c =
    let st = view_of c.args.state.now in
    let now = view_of c.loop-state.state in
    let r = c.loop-state.invariant (tokens_left c.args.list.now st.nums) (runnable_first c.args.list.now c.args.kind st (length c.args.out.now) c.requires.0 c.requires.1 c.requires.2 c.requires.3 _ c.refill.ensures) in
    let g = sym c.goes_on.ensures ∙ c.loop-state-test.true in
    let white = white_now c.args.list.now c.args.kind now r.good (goes_some c.args.list.now c.args.kind (nums_of c.loop-state.state.nums) c.loop-state.state.held g) _ c.count_before-white.ensures in
    running_room c.args.list.now c.args.kind _ c.args.out.now c.loop-state.out now c.loop-state.at r g _ white

pub overflow_add-at : goal.overflow_add-at
overflow_add-at c =
    let st = view_of c.args.state.now in
    let now = view_of c.loop-state.state in
    let r = c.loop-state.invariant (tokens_left c.args.list.now st.nums) (runnable_first c.args.list.now c.args.kind st (length c.args.out.now) c.requires.0 c.requires.1 c.requires.2 c.requires.3 _ c.refill.ensures) in
    let g = sym c.goes_on.ensures ∙ c.loop-state-test.true in
    let white = white_now c.args.list.now c.args.kind now r.good (goes_some c.args.list.now c.args.kind (nums_of c.loop-state.state.nums) c.loop-state.state.held g) _ c.count_before-white.ensures in
    let room = running_room c.args.list.now c.args.kind _ c.args.out.now c.loop-state.out now c.loop-state.at r g _ white in
    let same = r.same in
    omega (arith, room.0, room.1, c.well_formed, c.wide.ensures)

pub overflow_add-at-in-loop-state : goal.overflow_add-at-in-loop-state
overflow_add-at-in-loop-state c =
    let st = view_of c.args.state.now in
    let now = view_of c.loop-state.state in
    let r = c.loop-state.invariant (tokens_left c.args.list.now st.nums) (runnable_first c.args.list.now c.args.kind st (length c.args.out.now) c.requires.0 c.requires.1 c.requires.2 c.requires.3 _ c.refill.ensures) in
    let g = sym c.goes_on.ensures ∙ c.loop-state-test.true in
    let white = white_now c.args.list.now c.args.kind now r.good (goes_some c.args.list.now c.args.kind (nums_of c.loop-state.state.nums) c.loop-state.state.held g) _ c.count_before-white.ensures in
    let room = running_room c.args.list.now c.args.kind _ c.args.out.now c.loop-state.out now c.loop-state.at r g _ white in
    let same = r.same in
    omega (arith, room.0, room.1, c.well_formed, c.wide.ensures)

pub refill-requires-in-loop-state : goal.refill-requires-in-loop-state
refill-requires-in-loop-state c =
    let st = view_of c.args.state.now in
    let now = view_of c.loop-state.state in
    let r = c.loop-state.invariant (tokens_left c.args.list.now st.nums) (runnable_first c.args.list.now c.args.kind st (length c.args.out.now) c.requires.0 c.requires.1 c.requires.2 c.requires.3 _ c.refill.ensures) in
    let g = sym c.goes_on.ensures ∙ c.loop-state-test.true in
    let white = white_now c.args.list.now c.args.kind now r.good (goes_some c.args.list.now c.args.kind (nums_of c.loop-state.state.nums) c.loop-state.state.held g) _ c.count_before-white.ensures in
    let next = c.emit_front.ensures.0 ∙ front_state c.args.list.now now now refl _ white _ refl in
    running_next c.args.list.now c.args.kind _ c.args.out.now c.loop-state.out now c.loop-state.at r g _ next

pub loop-state-smaller : goal.loop-state-smaller
loop-state-smaller c =
    let st = view_of c.args.state.now in
    let now = view_of c.loop-state.state in
    let r = c.loop-state.invariant (tokens_left c.args.list.now st.nums) (runnable_first c.args.list.now c.args.kind st (length c.args.out.now) c.requires.0 c.requires.1 c.requires.2 c.requires.3 _ c.refill.ensures) in
    let g = sym c.goes_on.ensures ∙ c.loop-state-test.true in
    let white = white_now c.args.list.now c.args.kind now r.good (goes_some c.args.list.now c.args.kind (nums_of c.loop-state.state.nums) c.loop-state.state.held g) _ c.count_before-white.ensures in
    let next = c.emit_front.ensures.0 ∙ front_state c.args.list.now now now refl _ white _ refl in
    subst (λ (s : State). tokens_left c.args.list.now s.nums < tokens_left c.args.list.now now.nums) (sym (c.refill-in-loop-state.ensures ∙ ap (fill c.args.list.now 0) next)) (running_less c.args.list.now c.args.kind _ c.args.out.now c.loop-state.out now c.loop-state.at r g)

pub loop-state-preserved : goal.loop-state-preserved
loop-state-preserved c =
    let st = view_of c.args.state.now in
    let now = view_of c.loop-state.state in
    let r = c.loop-state.invariant (tokens_left c.args.list.now st.nums) (runnable_first c.args.list.now c.args.kind st (length c.args.out.now) c.requires.0 c.requires.1 c.requires.2 c.requires.3 _ c.refill.ensures) in
    let g = sym c.goes_on.ensures ∙ c.loop-state-test.true in
    let white = white_now c.args.list.now c.args.kind now r.good (goes_some c.args.list.now c.args.kind (nums_of c.loop-state.state.nums) c.loop-state.state.held g) _ c.count_before-white.ensures in
    let next = c.emit_front.ensures.0 ∙ front_state c.args.list.now now now refl _ white _ refl in
    λ n e. rw c.wide.ensures.0 (running_more c.args.list.now c.args.kind _ c.args.out.now c.loop-state.out now c.loop-state.at (c.loop-state.invariant n e) g _ _ _ _ white c.nth_words-words.ensures (c.refill-in-loop-state.ensures ∙ ap (fill c.args.list.now 0) next) c.emit_front.ensures.1)

pub returns : goal.returns
returns c =
    let st = view_of c.args.state.now in
    let now = view_of c.loop-state.state in
    let r = c.loop-state.invariant (tokens_left c.args.list.now st.nums) (runnable_first c.args.list.now c.args.kind st (length c.args.out.now) c.requires.0 c.requires.1 c.requires.2 c.requires.3 _ c.refill.ensures) in
    let e = running_end c.args.list.now c.args.kind _ c.args.out.now c.loop-state.out now c.loop-state.at r (sym c.goes_on.ensures ∙ c.loop-state-test.false) in
    (e.0 ∙ ap (λ (s : State). (run_of c.args.list.now c.args.kind (tokens_left c.args.list.now st.nums) s).state) c.refill.ensures, e.1 ∙ ap (λ (s : State). sets c.args.out.now 0 (run_of c.args.list.now c.args.kind (tokens_left c.args.list.now st.nums) s).written) c.refill.ensures)
