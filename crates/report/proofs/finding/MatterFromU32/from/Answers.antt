use Rattle.std.specs.Prelude.{ℕ}
use borrow.Author.Rules.{rules}
use mathlib.Core.Path.{sym, ap}
use Rattle.report.proofs.Matters.{matter_none}
use Rattle.report.specs.Matters.{matter_of}
use Rattle.report.proofs.finding.MatterFromU32.from.Goals as goal

pub returns-in-60 : goal.returns-in-60
unfolding matter_of
returns-in-60 c = λ reason e. sym (ap (λ (n : ℕ). matter_of n reason) c.in-60.is)

pub returns-in-61 : goal.returns-in-61
unfolding matter_of
returns-in-61 c = λ reason e. sym (ap (λ (n : ℕ). matter_of n reason) c.in-61.is)

pub returns-in-62 : goal.returns-in-62
unfolding matter_of
returns-in-62 c = λ reason e. sym (ap (λ (n : ℕ). matter_of n reason) c.in-62.is)

pub returns-in-63 : goal.returns-in-63
unfolding matter_of
returns-in-63 c = λ reason e. sym (ap (λ (n : ℕ). matter_of n reason) c.in-63.is)

pub returns-in-64 : goal.returns-in-64
unfolding matter_of
returns-in-64 c = λ reason e. sym (ap (λ (n : ℕ). matter_of n reason) c.in-64.is)

pub returns-in-65 : goal.returns-in-65
unfolding matter_of
returns-in-65 c = λ reason e. sym (ap (λ (n : ℕ). matter_of n reason) c.in-65.is)

pub returns-in-160 : goal.returns-in-160
unfolding matter_of
returns-in-160 c = λ reason e. sym (ap (λ (n : ℕ). matter_of n reason) c.in-160.is)

pub returns-in-161 : goal.returns-in-161
unfolding matter_of
returns-in-161 c = λ reason e. sym (ap (λ (n : ℕ). matter_of n reason) c.in-161.is)

pub returns-in_default : goal.returns-in_default
returns-in_default c = λ reason e. search (rules, matter_none)
