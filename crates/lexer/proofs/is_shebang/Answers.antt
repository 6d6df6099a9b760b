use mathlib.Core.Path.{sym, ◌∙◌}
use Rattle.lexer.proofs.Sources.{bang_cut, bang_end, bang_other, bang_second}
use Rattle.text.proofs.Decode.{step_none, step_one}
use Rattle.lexer.proofs.is_shebang.Goals as goal

pub returns-in_default : goal.returns-in_default
returns-in_default c = bang_end c.args.s.now (step_none c.args.s.now 0 (sym c.scalar_at.ensures ∙ c.in_default.is))

pub returns-then-first-ne-HASH : goal.returns-then-first-ne-HASH
returns-then-first-ne-HASH c = bang_other c.args.s.now c.in-Some.field-0.value c.in-Some.field-0.next (step_one c.args.s.now 0 c.in-Some.field-0.value c.in-Some.field-0.next (sym c.scalar_at.ensures ∙ c.in-Some.is)) c.if-first-ne-HASH.true

pub returns-in_default-scalar_at : goal.returns-in_default-scalar_at
returns-in_default-scalar_at c = bang_cut c.args.s.now c.in-Some.field-0.value c.in-Some.field-0.next (step_one c.args.s.now 0 c.in-Some.field-0.value c.in-Some.field-0.next (sym c.scalar_at.ensures ∙ c.in-Some.is)) c.if-first-ne-HASH.false (step_none c.args.s.now c.in-Some.field-0.next (sym c.scalar_at-2.ensures ∙ c.in_default-scalar_at.is))

pub returns : goal.returns
returns c = bang_second c.args.s.now c.in-Some.field-0.value c.in-Some.field-0.next (step_one c.args.s.now 0 c.in-Some.field-0.value c.in-Some.field-0.next (sym c.scalar_at.ensures ∙ c.in-Some.is)) c.if-first-ne-HASH.false _ _ (step_one c.args.s.now c.in-Some.field-0.next c.in-Some-scalar_at.field-0.value c.in-Some-scalar_at.field-0.next (sym c.scalar_at-2.ensures ∙ c.in-Some-scalar_at.is))
