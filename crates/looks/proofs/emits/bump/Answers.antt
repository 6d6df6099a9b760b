use mathlib.Core.Path.{refl, sym, ap, ap₂, ◌∙◌}
use native.Mathlib.Omega.{arith}
use Rattle.std.proofs.lemmas.Result.{err_from_is_err_and}
use Rattle.std.specs.Prelude.{Err}
use lib.Seq.{sets}
use lib.ListN.{length}
use Rattle.looks.proofs.Needed.{room_filled, room_kept, room_no, room_none, room_yes}
use Rattle.looks.proofs.Turns.{front_length, front_state, front_words_law, parts_of}
use Rattle.looks.specs.Buffer.{State, fill, view_of}
use Rattle.looks.specs.Calls.{bump_answer, bump_by, front_turn, need_by}
use Rattle.looks.specs.Front.{nth_of, white_of}
use Rattle.looks.specs.declared.rooms.Want.TheVariants.{Both}
use Rattle.looks.proofs.emits.bump.Goals as goal

pub returns-in_err-front_ready : goal.returns-in_err-front_ready
unfolding bump_by need_by
returns-in_err-front_ready c =
    let st = view_of c.args.state.now in
    let f = fill c.args.list.now 0 st in
    let p = err_from_is_err_and c.from_residual.result c.from_residual.ensures.1 in
    let h = sym c.front_ready.ensures.0 ∙ c.in_err-front_ready.was in
    parts_of c.args.out.now _ _ (room_no c.args.tested c.args.list.now Both (length c.args.out.now) st (front_turn c.args.list.now (bump_answer (white_of f) (nth_of c.args.list.now 0 f)) f) (front_length c.args.list.now f) _ h) _ _ _ (c.front_ready.ensures.1 ∙ sym (room_kept c.args.tested c.args.list.now Both (length c.args.out.now) st _ h), p.1 ∙ ap Err p.2, refl)

pub emit_first-requires : goal.emit_first-requires
unfolding need_by
emit_first-requires c =
    let st = view_of c.args.state.now in
    let f = fill c.args.list.now 0 st in
    let h = sym c.front_ready.ensures.0 ∙ c.in_ok-front_ready.was in
    let g = c.front_ready.ensures.1 ∙ sym (room_filled c.args.tested c.args.list.now Both (length c.args.out.now) st h) in
    let white = c.white_now-white.ensures ∙ ap white_of g in
    let emits = c.front_ready.ensures.2 c.in_ok-front_ready.was in
    let waits = ap (λ (x : State). x.nums.wait_len) g in
    let room = (room_none c.args.tested c.args.list.now Both (length c.args.out.now) st h).1 in
    let at = ap (λ (x : State). x.nums.wait_at) g in
    (omega (arith, emits.0), omega (arith, emits.1), omega arith)

pub returns : goal.returns
unfolding bump_by need_by
returns c =
    let st = view_of c.args.state.now in
    let f = fill c.args.list.now 0 st in
    let h = sym c.front_ready.ensures.0 ∙ c.in_ok-front_ready.was in
    let g = c.front_ready.ensures.1 ∙ sym (room_filled c.args.tested c.args.list.now Both (length c.args.out.now) st h) in
    let white = c.white_now-white.ensures ∙ ap white_of g in
    let emits = c.front_ready.ensures.2 c.in_ok-front_ready.was in
    let waits = ap (λ (x : State). x.nums.wait_len) g in
    let room = (room_none c.args.tested c.args.list.now Both (length c.args.out.now) st h).1 in
    let words = c.nth_words-words.ensures ∙ ap (nth_of c.args.list.now 0) g in
    parts_of c.args.out.now _ _ (room_yes c.args.tested c.args.list.now Both (length c.args.out.now) st (front_turn c.args.list.now (bump_answer (white_of f) (nth_of c.args.list.now 0 f)) f) (front_length c.args.list.now f) h) _ _ _ (c.emit_first.ensures.0 ∙ front_state c.args.list.now _ f g _ white _ refl, ap₂ bump_answer (c.wide.ensures.0 ∙ white) words, c.emit_first.ensures.1 ∙ ap (sets c.args.out.now 0) (front_words_law c.args.list.now _ f g _ white _ words))
