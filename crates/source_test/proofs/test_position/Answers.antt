use Rattle.std.specs.Prelude.{Err, Ok}
use mathlib.Core.Path.{sym, ap, ◌∙◌}
use mathlib.Core.Bool.{Bool}
use Rattle.laws.specs.Bools.{pick}
use Rattle.source_test.proofs.Places.{position_place}
use Rattle.source_test.specs.Source.{no_place}
use Rattle.token.specs.declared.read.Refusal.{Refusal}
use Rattle.source_test.proofs.test_position.Goals as goal

pub returns-then-is_boundary : goal.returns-then-is_boundary
returns-then-is_boundary c = sym (ap (λ (b : Bool). pick b (Ok tt) (no_place c.args.at)) (sym c.is_boundary.ensures ∙ c.if-is_boundary.true)) ∙ position_place c.args.s.now c.args.at (sym c.in_ok-test_source.ensures)

pub returns : goal.returns
returns c = ap (λ (r : Refusal). Err r) c.point.ensures ∙ sym (ap (λ (b : Bool). pick b (Ok tt) (no_place c.args.at)) (sym c.is_boundary.ensures ∙ c.if-is_boundary.false)) ∙ position_place c.args.s.now c.args.at (sym c.in_ok-test_source.ensures)
