use mathlib.Core.Path.{sym, ◌∙◌}
use Rattle.findings.proofs.Readings.{code_blank, code_found, code_halted, code_plain, code_refused}
use Rattle.findings.proofs.walk.as_code.Goals as goal

pub returns-in_default : goal.returns-in_default
returns-in_default c = code_refused c.args.at c.args.place c.args.a c.args.b c.in_default.field-0 c.in_default.is

pub returns-in_default-b : goal.returns-in_default-b
returns-in_default-b c = code_halted c.args.at c.args.place c.args.a c.args.b c.in-Ok.token c.in-Ok.is c.in_default-b.field-0 c.in_default-b.is

pub returns-then-not-is_comment : goal.returns-then-not-is_comment
returns-then-not-is_comment c = code_plain c.args.at c.args.place c.args.a c.args.b c.in-Ok.token c.in-Ok.is c.in-Ok-b.other c.in-Ok-b.is (sym c.is_comment.ensures ∙ c.if-not-is_comment.true)

pub returns-then-is_blank : goal.returns-then-is_blank
returns-then-is_blank c = code_blank c.args.at c.args.place c.args.a c.args.b c.in-Ok.token c.in-Ok.is c.in-Ok-b.other c.in-Ok-b.is (sym c.is_comment.ensures ∙ c.if-not-is_comment.false) (sym c.is_blank.ensures ∙ c.if-is_blank.true)

pub returns : goal.returns
returns c = code_found c.args.at c.args.place c.args.a c.args.b c.in-Ok.token c.in-Ok.is c.in-Ok-b.other c.in-Ok-b.is (sym c.is_comment.ensures ∙ c.if-not-is_comment.false) (sym c.is_blank.ensures ∙ c.if-is_blank.false)
