use Prim.Native.Nat.{ℕ, ◌-◌}
use mathlib.Core.Path.{sym, ap, ◌∙◌}
use native.Mathlib.Omega.{arith}
use lib.Seq.{sets}
use lib.ListN.{length}
use Rattle.std.proofs.lemmas.Result.{err_from_is_err_and}
use Rattle.std.specs.Prelude.{Err}
use Rattle.std.specs.Prelude.{Ok}
use Rattle.looks.proofs.Turns.{zeros}
use Rattle.looks.specs.declared.look.Done.{Done}
use Rattle.looks.proofs.Advances.{array_length, array_none}
use Rattle.looks.proofs.Answers.{gather_ready, sound_bounded}
use Rattle.looks.proofs.Turns.{parts, parts_of, stored_done, stored_short, unless_no, unless_yes}
use Rattle.looks.specs.Buffer.{State, gathers, view_of}
use Rattle.looks.specs.Calls.{array_by, array_refusal, array_turn, array_words, stored_by}
use Rattle.looks.proofs.emits.array.Goals as goal

pub returns-in_err-array_refusal : goal.returns-in_err-array_refusal
unfolding array_by
returns-in_err-array_refusal c =
    let st = view_of c.args.state.now in
    let is = c.array_refusal.ensures in
    let f = gathers c.args.list.now (c.args.n - st.nums.held_len) st in
    let turn = array_turn c.args.list.now c.args.n f in
    let p = err_from_is_err_and c.from_residual.result c.from_residual.ensures.1 in
    let w = parts c.args.out.now _ _ (unless_no Unit (array_refusal c.args.tested c.args.list.now c.args.n st) st (stored_by (length c.args.out.now) st turn) _ (sym is ∙ c.in_err-array_refusal.was)) in
    (w.0, p.1 ∙ ap Err p.2 ∙ w.1, w.2)

pub returns-then-out-n : goal.returns-then-out-n
unfolding array_by
returns-then-out-n c =
    let st = view_of c.args.state.now in
    let f = gathers c.args.list.now (c.args.n - st.nums.held_len) st in
    let turn = array_turn c.args.list.now c.args.n f in
    let is = c.array_refusal.ensures in
    let ok = sym is ∙ c.in_ok-array_refusal.was in
    let long = array_length c.args.list.now c.args.n 0 f.nums f.held in
    parts c.args.out.now _ _ (stored_short (length c.args.out.now) st turn (omega (arith, c.if-out-n.true)) ∙ unless_yes Unit (array_refusal c.args.tested c.args.list.now c.args.n st) st (stored_by (length c.args.out.now) st turn) tt ok)

pub gathers_at-requires : goal.gathers_at-requires
gathers_at-requires c =
    let st = view_of c.args.state.now in
    let is = c.array_refusal.ensures in
    let ok = sym is ∙ c.in_ok-array_refusal.was in
    let a = array_none c.args.tested c.args.list.now c.args.n st ok in
    gather_ready c.args.list.now st.nums c.args.n _ (sound_bounded c.args.tested c.args.list.now st a.0) a.1 c.lacks-lacking.ensures a.2

pub returns : goal.returns
unfolding array_by
returns c =
    let none = zeros c.default.result c.default.ensures.0 c.default.ensures.1.0 c.default.ensures.1.1.0 c.default.ensures.1.1.1 in
    let st = view_of c.args.state.now in
    let f = gathers c.args.list.now (c.args.n - st.nums.held_len) st in
    let turn = array_turn c.args.list.now c.args.n f in
    let is = c.array_refusal.ensures in
    let ok = sym is ∙ c.in_ok-array_refusal.was in
    let long = array_length c.args.list.now c.args.n 0 f.nums f.held in
    let g = c.gathers_at.ensures ∙ ap (λ (k : ℕ). gathers c.args.list.now k st) c.lacks-lacking.ensures in
    parts_of c.args.out.now _ _ (stored_done (length c.args.out.now) st turn (omega (arith, c.if-out-n.false)) ∙ unless_yes Unit (array_refusal c.args.tested c.args.list.now c.args.n st) st (stored_by (length c.args.out.now) st turn) tt ok) _ _ _ (g, ap (λ (d : Done). Ok (record { count = c.args.n; value = d.value; start = d.start; end = d.end })) none, c.put_array.ensures ∙ ap (λ (x : State). sets c.args.out.now 0 (array_words c.args.list.now c.args.n 0 x.nums x.held)) g)
