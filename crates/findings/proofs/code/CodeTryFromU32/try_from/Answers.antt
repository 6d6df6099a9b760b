use borrow.Author.Rules.{rules}
use mathlib.Core.Path.{sym, ap}
use Rattle.findings.proofs.Codes.{code_none}
use Rattle.findings.specs.Findings.{code_of}
use Rattle.findings.proofs.code.CodeTryFromU32.try_from.Goals as goal

pub returns-in-60 : goal.returns-in-60
unfolding code_of
returns-in-60 c = sym (ap code_of c.in-60.is)

pub returns-in-61 : goal.returns-in-61
unfolding code_of
returns-in-61 c = sym (ap code_of c.in-61.is)

pub returns-in-62 : goal.returns-in-62
unfolding code_of
returns-in-62 c = sym (ap code_of c.in-62.is)

pub returns-in-63 : goal.returns-in-63
unfolding code_of
returns-in-63 c = sym (ap code_of c.in-63.is)

pub returns-in-64 : goal.returns-in-64
unfolding code_of
returns-in-64 c = sym (ap code_of c.in-64.is)

pub returns-in-65 : goal.returns-in-65
unfolding code_of
returns-in-65 c = sym (ap code_of c.in-65.is)

pub returns-in_default : goal.returns-in_default
returns-in_default c = search (code_none, rules)
