use Prim.Native.Nat.{ℕ}
use mathlib.Core.Path.{◌≡◌, sym, ap₂, ◌∙◌}
use mathlib.Core.List.{List}
use native.Mathlib.Omega.{arith}
use lib.ListN.{get_or}
use Rattle.laws.proofs.Cases.{never}
use Rattle.looks.proofs.Answers.{refusal_held, sound_bounded}
use Rattle.looks.proofs.Fronts.{fill_held}
use Rattle.looks.proofs.Needed.{held_emits, held_white, held_words, room_done, room_filled, room_kept, room_short}
use Rattle.looks.proofs.Six.{some_sound}
use Rattle.looks.proofs.Turns.{sound_sum}
use Rattle.looks.specs.Buffer.{nums_of, view_of}
use Rattle.looks.specs.Calls.{need_by}
use Rattle.looks.specs.declared.look.Stop.TheVariants.{StoreShort}
use Rattle.looks.proofs.rooms.front_ready.Goals as goal

pub returns-then-room-needs : goal.returns-then-room-needs
returns-then-room-needs c =
    let st = view_of c.args.state.now in
    let s = some_sound c.args.tested c.args.list.now (nums_of c.args.state.now.nums) c.args.state.now.held c.args.state.now.counts c.args.state.now.waiting (sym c.some.ensures ∙ c.if-some.true) in
    let more = s.1 in
    let some : (nums_of c.args.state.now.nums).held_len ≡ 0 → ⊥ = λ z. omega arith in
    let need = c.needs.ensures ∙ ap₂ (λ (k : ℕ) (ws : List ℕ). need_by c.args.want k (get_or ws 0 0)) (c.wide-white.ensures.0 ∙ c.count_before.ensures ∙ held_white c.args.list.now st some) (held_words c.args.list.now st some _ c.nth_words-words.ensures) in
    let ok = refusal_held c.args.tested c.args.list.now 0 st s.0 s.1 in
    let h = room_short c.args.tested c.args.list.now c.args.want c.args.room st ok (omega (arith, c.if-room-needs.true)) in
    (sym h, room_kept c.args.tested c.args.list.now c.args.want c.args.room st StoreShort h, λ z. never (cc))

pub returns-then-some : goal.returns-then-some
returns-then-some c =
    let st = view_of c.args.state.now in
    let s = some_sound c.args.tested c.args.list.now (nums_of c.args.state.now.nums) c.args.state.now.held c.args.state.now.counts c.args.state.now.waiting (sym c.some.ensures ∙ c.if-some.true) in
    let more = s.1 in
    let some : (nums_of c.args.state.now.nums).held_len ≡ 0 → ⊥ = λ z. omega arith in
    let need = c.needs.ensures ∙ ap₂ (λ (k : ℕ) (ws : List ℕ). need_by c.args.want k (get_or ws 0 0)) (c.wide-white.ensures.0 ∙ c.count_before.ensures ∙ held_white c.args.list.now st some) (held_words c.args.list.now st some _ c.nth_words-words.ensures) in
    let ok = refusal_held c.args.tested c.args.list.now 0 st s.0 s.1 in
    let h = room_done c.args.tested c.args.list.now c.args.want c.args.room st ok (omega (arith, c.if-room-needs.false)) in
    (sym h, sym (fill_held c.args.list.now st some) ∙ room_filled c.args.tested c.args.list.now c.args.want c.args.room st h, λ z. held_emits c.args.list.now st some (sound_sum c.args.tested c.args.list.now st s.0) (sound_bounded c.args.tested c.args.list.now st s.0).wait_in)
