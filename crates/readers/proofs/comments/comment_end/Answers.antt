use Prim.Native.Nat.{◌+◌}
use mathlib.Core.Path.{refl, sym, ◌∙◌}
use native.Mathlib.Omega.{arith}
use Rattle.readers.proofs.Ends.{comment_bare, comment_close, comment_more, comment_none}
use Rattle.text.proofs.Decode.{byte_step, step_none, step_one}
use Rattle.readers.proofs.comments.comment_end.Goals as goal

pub loop-p-init : goal.loop-p-init
loop-p-init c = refl

pub overflow_add-p : goal.overflow_add-p
overflow_add-p c = let e = (sym c.byte_at.ensures ∙ c.if-byte_at-eq42.true) in let t = byte_step c.args.s.now c.loop-p.p (omega arith) (omega arith) in omega arith

pub overflow_add-result : goal.overflow_add-result
overflow_add-result c = let e = (sym c.byte_at-then-byte_at-eq42.ensures ∙ c.if-byte_at-eq47.true) in let t = byte_step c.args.s.now (c.loop-p.p + 1) (omega arith) (omega arith) in omega arith

pub loop-p-smaller-else-byte_at-eq47 : goal.loop-p-smaller-else-byte_at-eq47
loop-p-smaller-else-byte_at-eq47 c = let e = (sym c.byte_at.ensures ∙ c.if-byte_at-eq42.true) in let t = byte_step c.args.s.now c.loop-p.p (omega arith) (omega arith) in omega arith

pub loop-p-preserved-else-byte_at-eq47 : goal.loop-p-preserved-else-byte_at-eq47
loop-p-preserved-else-byte_at-eq47 c = comment_bare c.args.s.now c.loop-p.p (sym c.byte_at.ensures ∙ c.if-byte_at-eq42.true) (λ e. c.if-byte_at-eq47.false (c.byte_at-then-byte_at-eq42.ensures ∙ e)) ∙ c.loop-p.invariant

pub loop-p-smaller : goal.loop-p-smaller
loop-p-smaller c = let t = (step_one c.args.s.now c.loop-p.p _ _ (sym c.scalar_at.ensures ∙ c.in-Some.is)) in omega arith

pub loop-p-preserved : goal.loop-p-preserved
loop-p-preserved c = comment_more c.args.s.now c.loop-p.p _ _ (step_one c.args.s.now c.loop-p.p _ _ (sym c.scalar_at.ensures ∙ c.in-Some.is)) (λ e. c.if-byte_at-eq42.false (c.byte_at.ensures ∙ e)) ∙ c.loop-p.invariant

pub returns-then-byte_at-eq47 : goal.returns-then-byte_at-eq47
returns-then-byte_at-eq47 c = comment_close c.args.s.now c.loop-p.p (sym c.byte_at.ensures ∙ c.if-byte_at-eq42.true) (sym c.byte_at-then-byte_at-eq42.ensures ∙ c.if-byte_at-eq47.true) ∙ c.loop-p.invariant

pub returns-in_default : goal.returns-in_default
returns-in_default c = comment_none 0 c.args.s.now c.loop-p.p (step_none c.args.s.now c.loop-p.p (sym c.scalar_at.ensures ∙ c.in_default.is)) ∙ c.loop-p.invariant
