use borrow.Author.Rules.{rules}
use mathlib.Core.Path.{sym, ap}
use Rattle.answers.proofs.Forms.{form_none}
use Rattle.answers.specs.Told.{form_of}
use Rattle.answers.proofs.form.form_of.Goals as goal

pub returns-in-1 : goal.returns-in-1
unfolding form_of
returns-in-1 c = sym (ap form_of c.in-1.is)

pub returns-in-2 : goal.returns-in-2
unfolding form_of
returns-in-2 c = sym (ap form_of c.in-2.is)

pub returns-in-3 : goal.returns-in-3
unfolding form_of
returns-in-3 c = sym (ap form_of c.in-3.is)

pub returns-in-4 : goal.returns-in-4
unfolding form_of
returns-in-4 c = sym (ap form_of c.in-4.is)

pub returns-in-5 : goal.returns-in-5
unfolding form_of
returns-in-5 c = sym (ap form_of c.in-5.is)

pub returns-in_default : goal.returns-in_default
returns-in_default c = search (rules, form_none)
