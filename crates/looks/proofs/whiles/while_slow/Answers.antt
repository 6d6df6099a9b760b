use Prim.Native.Nat.{ℕ}
use mathlib.Core.Path.{◌≡◌, sym, ap, ◌∙◌}
use native.Mathlib.Omega.{arith}
use lib.Dec.{ltb}
use lib.ListN.{length}
use Rattle.std.proofs.lemmas.Result.{err_from_is_err_and}
use Rattle.std.specs.Prelude.{Err}
use Rattle.std.specs.Prelude.{Ok}
use Rattle.looks.proofs.Turns.{zeros}
use Rattle.looks.specs.declared.look.Done.{Done}
use Rattle.looks.proofs.Running.{good_sound, plan_inv, run_length, while_planned, while_unsound}
use Rattle.looks.proofs.Turns.{parts, parts_of, stored_done, stored_short, unless_no, unless_yes}
use Rattle.looks.specs.Answer.{done}
use Rattle.looks.specs.Buffer.{fill, view_of}
use Rattle.looks.specs.Calls.{stored_by}
use Rattle.looks.specs.Front.{yes}
use Rattle.looks.specs.While.{bump_while_by, tokens_left, while_refusal, while_run, while_turn}
use Rattle.looks.specs.declared.look.Stop.TheVariants.{Faulty}
use Rattle.looks.proofs.whiles.while_slow.Goals as goal

pub returns-then-not-sound : goal.returns-then-not-sound
unfolding bump_while_by
returns-then-not-sound c =
    let st = view_of c.args.state.now in
    let turn = while_turn (while_run c.args.list.now c.args.kind st) in
    let s = sym c.sound.ensures.0 ∙ c.if-not-sound.true in
    parts c.args.out.now _ _ (unless_no ℕ (while_refusal c.args.tested c.args.list.now c.args.kind st) st (stored_by (length c.args.out.now) st turn) Faulty (while_unsound c.args.tested c.args.list.now c.args.kind st s))

pub plan_while-requires : goal.plan_while-requires
plan_while-requires c =
    let st = view_of c.args.state.now in
    let s = sym c.sound.ensures.0 ∙ c.if-not-sound.false in
    good_sound c.args.tested c.args.list.now st s c.sound.ensures.1 c.sound.ensures.2

pub returns-in_err-count : goal.returns-in_err-count
unfolding bump_while_by
returns-in_err-count c =
    let st = view_of c.args.state.now in
    let turn = while_turn (while_run c.args.list.now c.args.kind st) in
    let s = sym c.sound.ensures.0 ∙ c.if-not-sound.false in
    let plan = c.plan_while.ensures in
    let p = err_from_is_err_and c.from_residual.result c.from_residual.ensures.1 in
    let w = parts c.args.out.now _ _ (unless_no ℕ (while_refusal c.args.tested c.args.list.now c.args.kind st) st (stored_by (length c.args.out.now) st turn) _ (while_planned c.args.tested c.args.list.now c.args.kind st s ∙ sym plan ∙ c.in_err-count.was)) in
    (w.0, p.1 ∙ ap Err p.2 ∙ w.1, w.2)

pub returns-then-out-count : goal.returns-then-out-count
unfolding bump_while_by
returns-then-out-count c =
    let st = view_of c.args.state.now in
    let turn = while_turn (while_run c.args.list.now c.args.kind st) in
    let s = sym c.sound.ensures.0 ∙ c.if-not-sound.false in
    let plan = c.plan_while.ensures in
    let ok = sym plan ∙ c.in_ok-count.was in
    let p = plan_inv c.args.list.now c.args.kind 0 (tokens_left c.args.list.now st.nums) st _ ok in
    let count = p.2 in
    let long = run_length c.args.list.now c.args.kind (tokens_left c.args.list.now st.nums) (fill c.args.list.now 0 st) in
    parts c.args.out.now _ _ (stored_short (length c.args.out.now) st turn (omega (arith, c.if-out-count.true)) ∙ unless_yes ℕ (while_refusal c.args.tested c.args.list.now c.args.kind st) st (stored_by (length c.args.out.now) st turn) _ (while_planned c.args.tested c.args.list.now c.args.kind st s ∙ ok))

pub run_while-requires : goal.run_while-requires
run_while-requires c =
    let st = view_of c.args.state.now in
    let s = sym c.sound.ensures.0 ∙ c.if-not-sound.false in
    let plan = c.plan_while.ensures in
    let ok = sym plan ∙ c.in_ok-count.was in
    let p = plan_inv c.args.list.now c.args.kind 0 (tokens_left c.args.list.now st.nums) st _ ok in
    let count = p.2 in
    (good_sound c.args.tested c.args.list.now st s c.sound.ensures.1 c.sound.ensures.2, p.0, p.1, omega (arith, c.if-out-count.false))

pub returns : goal.returns
unfolding bump_while_by
returns c =
    let none = zeros c.default.result c.default.ensures.0 c.default.ensures.1.0 c.default.ensures.1.1.0 c.default.ensures.1.1.1 in
    let st = view_of c.args.state.now in
    let turn = while_turn (while_run c.args.list.now c.args.kind st) in
    let s = sym c.sound.ensures.0 ∙ c.if-not-sound.false in
    let plan = c.plan_while.ensures in
    let ok = sym plan ∙ c.in_ok-count.was in
    let p = plan_inv c.args.list.now c.args.kind 0 (tokens_left c.args.list.now st.nums) st _ ok in
    let count = p.2 in
    let long = run_length c.args.list.now c.args.kind (tokens_left c.args.list.now st.nums) (fill c.args.list.now 0 st) in
    let same : c.in_ok-count.count ≡ (while_run c.args.list.now c.args.kind st).count = omega arith in
    parts_of c.args.out.now _ _ (stored_done (length c.args.out.now) st turn (omega (arith, c.if-out-count.false)) ∙ unless_yes ℕ (while_refusal c.args.tested c.args.list.now c.args.kind st) st (stored_by (length c.args.out.now) st turn) _ (while_planned c.args.tested c.args.list.now c.args.kind st s ∙ ok)) _ _ _ (c.run_while.ensures.0, ap (λ (d : Done). Ok (record { count = c.in_ok-count.count; value = c.from.result; start = d.start; end = d.end })) none ∙ ap (λ (k : ℕ). done c.in_ok-count.count k 0 0) c.from.ensures ∙ ap (λ (k : ℕ). done k (yes (ltb 0 k)) 0 0) same, c.run_while.ensures.1)
