use Prim.Native.Nat.{ℕ, ◌≤◌}
use mathlib.Core.Path.{sym, ap, ap₂, ◌∙◌, subst}
use mathlib.Core.List.{List}
use native.Mathlib.Omega.{arith}
use lib.ListN.{get_or}
use Rattle.std.proofs.lemmas.Result.{err_from_is_err_and}
use Rattle.std.specs.Prelude.{Err}
use Rattle.laws.proofs.Cases.{never}
use Rattle.looks.proofs.Answers.{gather_ready, refusal_none, sound_bounded}
use Rattle.looks.proofs.Needed.{fill_emits, room_done, room_filled, room_kept, room_refused, room_short}
use Rattle.looks.proofs.Turns.{sound_sum}
use Rattle.looks.specs.Buffer.{gathers, view_of, words_of}
use Rattle.looks.specs.Calls.{need_by}
use Rattle.looks.specs.Front.{Fronted}
use Rattle.looks.specs.Numbered.{token_count}
use Rattle.looks.specs.declared.look.Stop.TheVariants.{StoreShort}
use Rattle.ahead.specs.declared.Nums.{Nums}
use Rattle.looks.proofs.rooms.front_slow.Goals as goal

pub returns-in_err-fill_refusal : goal.returns-in_err-fill_refusal
returns-in_err-fill_refusal c =
    let st = view_of c.args.state.now in
    let p = err_from_is_err_and c.from_residual.result c.from_residual.ensures.1 in
    let no = sym c.fill_refusal.ensures ∙ c.in_err-fill_refusal.was in
    let h = room_refused c.args.tested c.args.list.now c.args.want c.args.room st _ no in
    let q = p.1 ∙ ap Err p.2 in
    (q ∙ sym h, room_kept c.args.tested c.args.list.now c.args.want c.args.room st _ h, λ z. let w = sym z ∙ q in never (cc))

pub front_of-front-requires : goal.front_of-front-requires
front_of-front-requires c =
    let st = view_of c.args.state.now in
    let ok = sym c.fill_refusal.ensures ∙ c.in_ok-fill_refusal.was in
    let r = refusal_none c.args.tested c.args.list.now 0 st ok in
    let b = sound_bounded c.args.tested c.args.list.now st r.0 in
    (subst (λ (k : Nums). k.next ≤ token_count c.args.list.now) (sym c.nums.ensures) b.reach, subst (λ (k : Nums). k.wait_len ≤ 256) (sym c.nums.ensures) b.wait_few)

pub returns-then-room-needs : goal.returns-then-room-needs
returns-then-room-needs c =
    let st = view_of c.args.state.now in
    let ok = sym c.fill_refusal.ensures ∙ c.in_ok-fill_refusal.was in
    let r = refusal_none c.args.tested c.args.list.now 0 st ok in
    let b = sound_bounded c.args.tested c.args.list.now st r.0 in
    let fr = subst (λ (k : Nums). Fronted c.args.list.now k c.args.state.now.held c.args.state.now.counts c.front_of-front.result.white (words_of c.front_of-front.result.words)) c.nums.ensures c.front_of-front.ensures.0 c.args.state.now.waiting in
    let need = c.needs.ensures ∙ ap₂ (λ (k : ℕ) (ws : List ℕ). need_by c.args.want k (get_or ws 0 0)) fr.0 fr.1 in
    let h = room_short c.args.tested c.args.list.now c.args.want c.args.room st ok (omega (arith, c.if-room-needs.true)) in
    (sym h, room_kept c.args.tested c.args.list.now c.args.want c.args.room st StoreShort h, λ z. never (cc))

pub gathers_at-requires : goal.gathers_at-requires
gathers_at-requires c =
    let st = view_of c.args.state.now in
    let ok = sym c.fill_refusal.ensures ∙ c.in_ok-fill_refusal.was in
    let r = refusal_none c.args.tested c.args.list.now 0 st ok in
    let b = sound_bounded c.args.tested c.args.list.now st r.0 in
    gather_ready c.args.list.now st.nums 1 _ b (omega arith) c.lacks-lacking.ensures r.2

pub returns : goal.returns
returns c =
    let st = view_of c.args.state.now in
    let ok = sym c.fill_refusal.ensures ∙ c.in_ok-fill_refusal.was in
    let r = refusal_none c.args.tested c.args.list.now 0 st ok in
    let b = sound_bounded c.args.tested c.args.list.now st r.0 in
    let fr = subst (λ (k : Nums). Fronted c.args.list.now k c.args.state.now.held c.args.state.now.counts c.front_of-front.result.white (words_of c.front_of-front.result.words)) c.nums.ensures c.front_of-front.ensures.0 c.args.state.now.waiting in
    let need = c.needs.ensures ∙ ap₂ (λ (k : ℕ) (ws : List ℕ). need_by c.args.want k (get_or ws 0 0)) fr.0 fr.1 in
    let h = room_done c.args.tested c.args.list.now c.args.want c.args.room st ok (omega (arith, c.if-room-needs.false)) in
    (sym h, c.gathers_at.ensures ∙ ap (λ (k : ℕ). gathers c.args.list.now k st) c.lacks-lacking.ensures ∙ room_filled c.args.tested c.args.list.now c.args.want c.args.room st h, λ z. fill_emits c.args.list.now st (sound_sum c.args.tested c.args.list.now st r.0) c.front_of-front.ensures.2 c.front_of-front.ensures.3 b.wait_in)
