use Prim.Native.Nat.{ℕ, ◌+◌, ◌≤◌}
use mathlib.Core.Path.{sym, ap, ap₂, ◌∙◌, subst}
use native.Mathlib.Omega.{arith}
use Rattle.looks.proofs.Answers.{filled_no, filled_yes, gather_ready, ready_for, refusal_0, refusal_30, refusal_31, sound_bounded}
use Rattle.looks.specs.Buffer.{Roomy, fits_for, gathers, view_of}
use Rattle.looks.specs.Numbered.{token_count}
use Rattle.looks.specs.declared.look.Stop.TheVariants.{TooFar, WaitingFull}
use Rattle.ahead.specs.declared.Nums.{Nums}
use Rattle.looks.proofs.ready.fill_more.Goals as goal

pub returns-then-n-gt7 : goal.returns-then-n-gt7
returns-then-n-gt7 c =
    let st = view_of c.args.state.now in
    let r = refusal_30 c.args.tested c.args.list.now c.args.n st c.requires c.if-n-gt7.true in
    (sym r, filled_no c.args.tested c.args.list.now c.args.n st TooFar r)

pub fits_for-requires : goal.fits_for-requires
fits_for-requires c =
    let st = view_of c.args.state.now in
    let b = sound_bounded c.args.tested c.args.list.now st c.requires in
    subst (λ (k : Nums). (k.next ≤ token_count c.args.list.now) × Roomy k × (k.held_len + c.lacks-lacking.result ≤ 8) × (k.wait_len ≤ 256)) (sym c.nums.ensures) (ready_for c.args.list.now st.nums (c.args.n + 1) _ b (omega (arith, c.if-n-gt7.false)) c.lacks-lacking.ensures)

pub returns-then-not-fits_for : goal.returns-then-not-fits_for
returns-then-not-fits_for c =
    let st = view_of c.args.state.now in
    let r = refusal_31 c.args.tested c.args.list.now c.args.n st c.requires c.if-n-gt7.false (sym (c.fits_for.ensures ∙ ap₂ (λ (k : ℕ) (i : Nums). fits_for c.args.list.now k i) c.lacks-lacking.ensures c.nums.ensures) ∙ c.if-not-fits_for.true) in
    (sym r, filled_no c.args.tested c.args.list.now c.args.n st WaitingFull r)

pub gathers_at-requires : goal.gathers_at-requires
gathers_at-requires c =
    let st = view_of c.args.state.now in
    let b = sound_bounded c.args.tested c.args.list.now st c.requires in
    gather_ready c.args.list.now st.nums (c.args.n + 1) _ b (omega (arith, c.if-n-gt7.false)) c.lacks-lacking.ensures (sym (c.fits_for.ensures ∙ ap₂ (λ (k : ℕ) (i : Nums). fits_for c.args.list.now k i) c.lacks-lacking.ensures c.nums.ensures) ∙ c.if-not-fits_for.false)

pub returns : goal.returns
returns c =
    let st = view_of c.args.state.now in
    let r = refusal_0 c.args.tested c.args.list.now c.args.n st c.requires c.if-n-gt7.false (sym (c.fits_for.ensures ∙ ap₂ (λ (k : ℕ) (i : Nums). fits_for c.args.list.now k i) c.lacks-lacking.ensures c.nums.ensures) ∙ c.if-not-fits_for.false) in
    (sym r, c.gathers_at.ensures ∙ ap (λ (k : ℕ). gathers c.args.list.now k st) c.lacks-lacking.ensures ∙ filled_yes c.args.tested c.args.list.now c.args.n st r)
