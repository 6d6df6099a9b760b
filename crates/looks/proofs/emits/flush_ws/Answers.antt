use Prim.Native.Nat.{ℕ}
use mathlib.Core.Path.{refl, sym, ap, ap₂, ◌∙◌}
use mathlib.Core.List.{List}
use native.Mathlib.Omega.{arith}
use Prim.Native.Nat.{◌%◌}
use Rattle.std.proofs.lemmas.Result.{err_from_is_err_and}
use Rattle.std.specs.Prelude.{Err}
use Prim.Native.Nat.{◌%◌}
use lib.ListN.{set}
use lib.Seq.{sets}
use lib.ListN.{get_or, length}
use Rattle.looks.proofs.Needed.{room_filled, room_kept, room_no, room_none, room_yes}
use Rattle.looks.proofs.Turns.{flush_state, parts_of, white_length, white_words_law}
use Rattle.looks.specs.Answer.{done}
use Rattle.looks.specs.Buffer.{State, fill, nums_of, view_of}
use Rattle.looks.specs.Calls.{flush_by, flush_turn, need_by}
use Rattle.looks.specs.Front.{nth_of, wait_words, white_of}
use Rattle.looks.specs.declared.rooms.Want.TheVariants.{White}
use Rattle.looks.proofs.emits.flush_ws.Goals as goal

pub returns-in_err-front_ready : goal.returns-in_err-front_ready
unfolding flush_by need_by
returns-in_err-front_ready c =
    let st = view_of c.args.state.now in
    let f = fill c.args.list.now 0 st in
    let p = err_from_is_err_and c.from_residual.result c.from_residual.ensures.1 in
    let h = sym c.front_ready.ensures.0 ∙ c.in_err-front_ready.was in
    parts_of c.args.out.now _ _ (room_no c.args.tested c.args.list.now White (length c.args.out.now) st (flush_turn c.args.list.now f) (white_length c.args.list.now f) _ h) _ _ _ (c.front_ready.ensures.1 ∙ sym (room_kept c.args.tested c.args.list.now White (length c.args.out.now) st _ h), p.1 ∙ ap Err p.2, refl)

pub put_waiting-requires : goal.put_waiting-requires
unfolding need_by
put_waiting-requires c =
    let st = view_of c.args.state.now in
    let f = fill c.args.list.now 0 st in
    let h = sym c.front_ready.ensures.0 ∙ c.in_ok-front_ready.was in
    let g = c.front_ready.ensures.1 ∙ sym (room_filled c.args.tested c.args.list.now White (length c.args.out.now) st h) in
    let white = c.white_now-white.ensures ∙ ap white_of g in
    let emits = c.front_ready.ensures.2 c.in_ok-front_ready.was in
    let waits = ap (λ (x : State). x.nums.wait_len) g in
    let room = (room_none c.args.tested c.args.list.now White (length c.args.out.now) st h).1 in
    omega (arith, c.wide.ensures)

pub returns : goal.returns
unfolding flush_by need_by
returns c =
    let st = view_of c.args.state.now in
    let f = fill c.args.list.now 0 st in
    let h = sym c.front_ready.ensures.0 ∙ c.in_ok-front_ready.was in
    let g = c.front_ready.ensures.1 ∙ sym (room_filled c.args.tested c.args.list.now White (length c.args.out.now) st h) in
    let white = c.white_now-white.ensures ∙ ap white_of g in
    let emits = c.front_ready.ensures.2 c.in_ok-front_ready.was in
    let waits = ap (λ (x : State). x.nums.wait_len) g in
    let room = (room_none c.args.tested c.args.list.now White (length c.args.out.now) st h).1 in
    let words = c.nth_words-words.ensures ∙ ap (nth_of c.args.list.now 0) g in
    parts_of c.args.out.now _ _ (room_yes c.args.tested c.args.list.now White (length c.args.out.now) st (flush_turn c.args.list.now f) (white_length c.args.list.now f) h) _ _ _ (c.take_waiting.ensures ∙ flush_state c.args.list.now _ f g _ white _ _ refl (ap (λ (k : ℕ). set c.front_ready.new.state.counts (k % 8) 0) c.wide-2.ensures.0), ap₂ (λ (k : ℕ) (ws : List ℕ). done k 0 (get_or ws 1 0) (get_or ws 1 0)) (c.wide-3.ensures.0 ∙ white) words, c.put_waiting.ensures ∙ ap (λ (k : ℕ). sets c.args.out.now 0 (wait_words k c.args.list.now c.front_ready.new.state.waiting (nums_of c.front_ready.new.state.nums).wait_at)) c.wide.ensures.0 ∙ ap (sets c.args.out.now 0) (white_words_law c.args.list.now _ f g _ white))
