use Rattle.std.specs.Prelude.{Option, true}
use mathlib.Core.Path.{refl, sym, ap, ◌∙◌}
use Rattle.laws.specs.Bools.{pick}
use Rattle.outline.proofs.Shading.{shade_before, shade_behind, shade_in}
use Rattle.outline.specs.Covered.{covered}
use Rattle.outline.specs.declared.Inside.{Inside}
use Rattle.outline.proofs.shade.Goals as goal

pub returns-in-Some : goal.returns-in-Some
returns-in-Some c = shade_in c.args.b true c.args.i c.in-Some.field-0.lo c.in-Some.field-0.kept c.args.left refl c.if-lo-i.true c.if-kept-left.true ∙ ap (λ (x : Option Inside). pick (covered x c.args.i c.args.left) 0x78 c.args.b) (sym c.in-Some.is)

pub returns-in_default : goal.returns-in_default
returns-in_default c = shade_behind c.args.b true c.args.i c.in-Some.field-0.lo c.in-Some.field-0.kept c.args.left refl c.if-lo-i.true c.if-kept-left.false ∙ ap (λ (x : Option Inside). pick (covered x c.args.i c.args.left) 0x78 c.args.b) (sym c.in-Some.is)

pub returns-in_default-2 : goal.returns-in_default-2
returns-in_default-2 c = shade_before c.args.b true c.args.i c.in-Some.field-0.lo c.in-Some.field-0.kept c.args.left refl c.if-lo-i.false ∙ ap (λ (x : Option Inside). pick (covered x c.args.i c.args.left) 0x78 c.args.b) (sym c.in-Some.is)

pub returns-in_default-3 : goal.returns-in_default-3
returns-in_default-3 c = ap (λ (x : Option Inside). pick (covered x c.args.i c.args.left) 0x78 c.args.b) (sym c.in_default.is)
