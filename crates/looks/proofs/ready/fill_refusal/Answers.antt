use Prim.Native.Nat.{ℕ, ◌+◌, ◌≤◌}
use mathlib.Core.Path.{sym, ap₂, ◌∙◌, subst}
use native.Mathlib.Omega.{arith}
use Rattle.looks.proofs.Answers.{ready_for, refusal_0, refusal_30, refusal_31, refusal_34, refusal_held, sound_bounded}
use Rattle.looks.specs.Buffer.{Roomy, fits_for, view_of}
use Rattle.looks.specs.Numbered.{token_count}
use Rattle.ahead.specs.declared.Nums.{Nums}
use Rattle.looks.proofs.ready.fill_refusal.Goals as goal

pub returns-then-not-sound : goal.returns-then-not-sound
returns-then-not-sound c =
    let st = view_of c.args.state.now in
    let s = sym c.sound.ensures.0 ∙ c.if-not-sound.true in
    sym (refusal_34 c.args.tested c.args.list.now c.args.n st s)

pub returns-then-n-wide : goal.returns-then-n-wide
returns-then-n-wide c =
    let st = view_of c.args.state.now in
    let s = sym c.sound.ensures.0 ∙ c.if-not-sound.false in
    sym (refusal_held c.args.tested c.args.list.now c.args.n st s (rw c.wide.ensures.0 at c.if-n-wide.true))

pub returns-then-n-gt7 : goal.returns-then-n-gt7
returns-then-n-gt7 c =
    let st = view_of c.args.state.now in
    let s = sym c.sound.ensures.0 ∙ c.if-not-sound.false in
    sym (refusal_30 c.args.tested c.args.list.now c.args.n st s c.if-n-gt7.true)

pub fits_for-requires : goal.fits_for-requires
fits_for-requires c =
    let st = view_of c.args.state.now in
    let s = sym c.sound.ensures.0 ∙ c.if-not-sound.false in
    let b = sound_bounded c.args.tested c.args.list.now st s in
    subst (λ (k : Nums). (k.next ≤ token_count c.args.list.now) × Roomy k × (k.held_len + c.lacks.result ≤ 8) × (k.wait_len ≤ 256)) (sym c.nums.ensures) (ready_for c.args.list.now st.nums (c.args.n + 1) _ b (omega (arith, c.if-n-gt7.false)) c.lacks.ensures)

pub returns-then-not-fits_for : goal.returns-then-not-fits_for
returns-then-not-fits_for c =
    let st = view_of c.args.state.now in
    let s = sym c.sound.ensures.0 ∙ c.if-not-sound.false in
    sym (refusal_31 c.args.tested c.args.list.now c.args.n st s c.if-n-gt7.false (sym (c.fits_for.ensures ∙ ap₂ (λ (k : ℕ) (i : Nums). fits_for c.args.list.now k i) c.lacks.ensures c.nums.ensures) ∙ c.if-not-fits_for.true))

pub returns : goal.returns
returns c =
    let st = view_of c.args.state.now in
    let s = sym c.sound.ensures.0 ∙ c.if-not-sound.false in
    sym (refusal_0 c.args.tested c.args.list.now c.args.n st s c.if-n-gt7.false (sym (c.fits_for.ensures ∙ ap₂ (λ (k : ℕ) (i : Nums). fits_for c.args.list.now k i) c.lacks.ensures c.nums.ensures) ∙ c.if-not-fits_for.false))
