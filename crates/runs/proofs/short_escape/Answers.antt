use borrow.Author.Rules.{rules}
use mathlib.Core.Path.{◌≡◌, sym, ap}
use Rattle.runs.proofs.Shorts.{no_short}
use Rattle.runs.specs.Runs.{short_of}
use Rattle.runs.proofs.short_escape.Goals as goal

pub returns-in-39 : goal.returns-in-39
unfolding short_of
returns-in-39 c = sym (ap short_of c.in-39.is)

pub returns-in-34 : goal.returns-in-34
unfolding short_of
returns-in-34 c = sym (ap short_of c.in-34.is)

pub returns-in-110 : goal.returns-in-110
unfolding short_of
returns-in-110 c = sym (ap short_of c.in-110.is)

pub returns-in-114 : goal.returns-in-114
unfolding short_of
returns-in-114 c = sym (ap short_of c.in-114.is)

pub returns-in-116 : goal.returns-in-116
unfolding short_of
returns-in-116 c = sym (ap short_of c.in-116.is)

pub returns-in-92 : goal.returns-in-92
unfolding short_of
returns-in-92 c = sym (ap short_of c.in-92.is)

pub returns-in-48 : goal.returns-in-48
unfolding short_of
returns-in-48 c = sym (ap short_of c.in-48.is)

pub returns-in-36 : goal.returns-in-36
unfolding short_of
returns-in-36 c = sym (ap short_of c.in-36.is)

pub returns-in-96 : goal.returns-in-96
unfolding short_of
returns-in-96 c = sym (ap short_of c.in-96.is)

pub returns-in_default : goal.returns-in_default
returns-in_default c = sym (let t : short_of c.args.v ≡ 0xff = search (rules, no_short) in t)
