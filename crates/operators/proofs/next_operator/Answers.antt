use mathlib.Core.Path.{sym, ◌∙◌}
use Rattle.operators.proofs.Longest.{op_end, op_one, op_three, op_two, op_two_end}
use Rattle.text.proofs.Decode.{step_none, step_one}
use Rattle.operators.proofs.next_operator.Goals as goal

pub returns-in_default : goal.returns-in_default
returns-in_default c = c.single_at.ensures ∙ op_end c.args.s.now c.args.first c.args.at (step_none c.args.s.now c.args.at (sym c.scalar_at.ensures ∙ c.in_default.is))

pub returns-in_default-pair_of : goal.returns-in_default-pair_of
returns-in_default-pair_of c = c.single_at-in_default-pair_of.ensures ∙ op_one c.args.s.now c.args.first c.args.at c.in-Some.field-0.value c.in-Some.field-0.next (step_one c.args.s.now c.args.at c.in-Some.field-0.value c.in-Some.field-0.next (sym c.scalar_at.ensures ∙ c.in-Some.is)) (sym c.pair_of.ensures ∙ c.in_default-pair_of.is)

pub returns-in_default-scalar_at : goal.returns-in_default-scalar_at
returns-in_default-scalar_at c = op_two_end c.args.s.now c.args.first c.args.at c.in-Some.field-0.value c.in-Some.field-0.next (step_one c.args.s.now c.args.at c.in-Some.field-0.value c.in-Some.field-0.next (sym c.scalar_at.ensures ∙ c.in-Some.is)) c.in-Some-pair_of.short (sym c.pair_of.ensures ∙ c.in-Some-pair_of.is) (step_none c.args.s.now c.in-Some.field-0.next (sym c.scalar_at-2.ensures ∙ c.in_default-scalar_at.is))

pub returns-in_default-triple_of : goal.returns-in_default-triple_of
returns-in_default-triple_of c = op_two c.args.s.now c.args.first c.args.at c.in-Some.field-0.value c.in-Some.field-0.next (step_one c.args.s.now c.args.at c.in-Some.field-0.value c.in-Some.field-0.next (sym c.scalar_at.ensures ∙ c.in-Some.is)) c.in-Some-scalar_at.field-0.value c.in-Some-scalar_at.field-0.next (step_one c.args.s.now c.in-Some.field-0.next c.in-Some-scalar_at.field-0.value c.in-Some-scalar_at.field-0.next (sym c.scalar_at-2.ensures ∙ c.in-Some-scalar_at.is)) c.in-Some-pair_of.short (sym c.pair_of.ensures ∙ c.in-Some-pair_of.is) (sym c.triple_of.ensures ∙ c.in_default-triple_of.is)

pub returns : goal.returns
returns c = op_three c.args.s.now c.args.first c.args.at c.in-Some.field-0.value c.in-Some.field-0.next (step_one c.args.s.now c.args.at c.in-Some.field-0.value c.in-Some.field-0.next (sym c.scalar_at.ensures ∙ c.in-Some.is)) c.in-Some-scalar_at.field-0.value c.in-Some-scalar_at.field-0.next (step_one c.args.s.now c.in-Some.field-0.next c.in-Some-scalar_at.field-0.value c.in-Some-scalar_at.field-0.next (sym c.scalar_at-2.ensures ∙ c.in-Some-scalar_at.is)) c.in-Some-triple_of.long (sym c.triple_of.ensures ∙ c.in-Some-triple_of.is)
