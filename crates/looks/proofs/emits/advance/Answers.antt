use Prim.Native.Nat.{ℕ, ◌+◌}
use mathlib.Core.Path.{sym, ap, ◌∙◌}
use native.Mathlib.Omega.{arith}
use lib.ListN.{length}
use Rattle.std.proofs.lemmas.Result.{err_from_is_err_and}
use Rattle.std.specs.Prelude.{Err}
use Rattle.std.specs.Prelude.{Ok}
use Rattle.looks.proofs.Turns.{zeros}
use Rattle.looks.specs.declared.look.Done.{Done}
use Rattle.looks.proofs.Advances.{advance_length, advance_none, sum_mono}
use Rattle.looks.proofs.Answers.{sound_bounded}
use Rattle.looks.proofs.Turns.{parts, parts_of, sound_sum, stored_done, stored_short, unless_no, unless_yes}
use Rattle.looks.specs.Answer.{done}
use Rattle.looks.specs.Buffer.{view_of}
use Rattle.looks.specs.Calls.{advance_by, advance_refusal, advance_turn, stored_by}
use Rattle.looks.specs.Sound.{count_sum}
use Rattle.looks.proofs.emits.advance.Goals as goal

pub returns-in_err-advance_refusal : goal.returns-in_err-advance_refusal
unfolding advance_by
returns-in_err-advance_refusal c =
    let st = view_of c.args.state.now in
    let is = c.advance_refusal.ensures in
    let turn = advance_turn c.args.list.now c.args.n st in
    let p = err_from_is_err_and c.from_residual.result c.from_residual.ensures.1 in
    let w = parts c.args.out.now _ _ (unless_no Unit (advance_refusal c.args.tested c.args.list.now c.args.n st) st (stored_by (length c.args.out.now) st turn) _ (sym is ∙ c.in_err-advance_refusal.was)) in
    (w.0, p.1 ∙ ap Err p.2 ∙ w.1, w.2)

pub counts_sum-requires : goal.counts_sum-requires
counts_sum-requires c =
    let st = view_of c.args.state.now in
    let is = c.advance_refusal.ensures in
    let ok = sym is ∙ c.in_ok-advance_refusal.was in
    let a = advance_none c.args.tested c.args.list.now c.args.n st ok in
    let b = sound_bounded c.args.tested c.args.list.now st a.0 in
    let few = a.1 in
    (omega (arith, b, c.wide.ensures), omega (arith, b))

pub overflow_add-count : goal.overflow_add-count
overflow_add-count c =
    let st = view_of c.args.state.now in
    let is = c.advance_refusal.ensures in
    let ok = sym is ∙ c.in_ok-advance_refusal.was in
    let a = advance_none c.args.tested c.args.list.now c.args.n st ok in
    let b = sound_bounded c.args.tested c.args.list.now st a.0 in
    let sum = c.counts_sum.ensures ∙ ap (count_sum c.args.state.now.counts c.args.n) c.wide.ensures.0 in
    let few = a.1 in
    let most = sound_sum c.args.tested c.args.list.now st a.0 in
    let mono = sum_mono c.args.state.now.counts c.args.n st.nums.held_len st.nums.held_at few in
    omega (arith, b)

pub returns-then-out-count : goal.returns-then-out-count
unfolding advance_by
returns-then-out-count c =
    let st = view_of c.args.state.now in
    let turn = advance_turn c.args.list.now c.args.n st in
    let is = c.advance_refusal.ensures in
    let ok = sym is ∙ c.in_ok-advance_refusal.was in
    let a = advance_none c.args.tested c.args.list.now c.args.n st ok in
    let b = sound_bounded c.args.tested c.args.list.now st a.0 in
    let sum = c.counts_sum.ensures ∙ ap (count_sum c.args.state.now.counts c.args.n) c.wide.ensures.0 in
    let few = a.1 in
    let most = sound_sum c.args.tested c.args.list.now st a.0 in
    let mono = sum_mono c.args.state.now.counts c.args.n st.nums.held_len st.nums.held_at few in
    let long = advance_length c.args.list.now c.args.n st few in
    parts c.args.out.now _ _ (stored_short (length c.args.out.now) st turn (omega (arith, c.if-out-count.true)) ∙ unless_yes Unit (advance_refusal c.args.tested c.args.list.now c.args.n st) st (stored_by (length c.args.out.now) st turn) tt ok)

pub emit_held-requires : goal.emit_held-requires
emit_held-requires c =
    let st = view_of c.args.state.now in
    let is = c.advance_refusal.ensures in
    let ok = sym is ∙ c.in_ok-advance_refusal.was in
    let a = advance_none c.args.tested c.args.list.now c.args.n st ok in
    let b = sound_bounded c.args.tested c.args.list.now st a.0 in
    let sum = c.counts_sum.ensures ∙ ap (count_sum c.args.state.now.counts c.args.n) c.wide.ensures.0 in
    let few = a.1 in
    let most = sound_sum c.args.tested c.args.list.now st a.0 in
    let mono = sum_mono c.args.state.now.counts c.args.n st.nums.held_len st.nums.held_at few in
    (few, omega arith, omega (arith, c.if-out-count.false))

pub returns : goal.returns
unfolding advance_by
returns c =
    let none = zeros c.default.result c.default.ensures.0 c.default.ensures.1.0 c.default.ensures.1.1.0 c.default.ensures.1.1.1 in
    let st = view_of c.args.state.now in
    let turn = advance_turn c.args.list.now c.args.n st in
    let is = c.advance_refusal.ensures in
    let ok = sym is ∙ c.in_ok-advance_refusal.was in
    let a = advance_none c.args.tested c.args.list.now c.args.n st ok in
    let b = sound_bounded c.args.tested c.args.list.now st a.0 in
    let sum = c.counts_sum.ensures ∙ ap (count_sum c.args.state.now.counts c.args.n) c.wide.ensures.0 in
    let few = a.1 in
    let most = sound_sum c.args.tested c.args.list.now st a.0 in
    let mono = sum_mono c.args.state.now.counts c.args.n st.nums.held_len st.nums.held_at few in
    let long = advance_length c.args.list.now c.args.n st few in
    parts_of c.args.out.now _ _ (stored_done (length c.args.out.now) st turn (omega (arith, c.if-out-count.false)) ∙ unless_yes Unit (advance_refusal c.args.tested c.args.list.now c.args.n st) st (stored_by (length c.args.out.now) st turn) tt ok) _ _ _ (c.emit_held.ensures.0, ap (λ (d : Done). Ok (record { count = c.counts_sum.result + c.args.n; value = d.value; start = d.start; end = d.end })) none ∙ ap (λ (k : ℕ). done (k + c.args.n) 0 0 0) sum, c.emit_held.ensures.1)
