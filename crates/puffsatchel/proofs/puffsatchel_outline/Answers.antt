use mathlib.Core.Path.{refl, sym, ap, ◌∙◌}
use lib.ListN.{length}
use Rattle.answers.proofs.Promises.{tells}
use Rattle.answers.proofs.Readings.{left_none, left_one}
use Rattle.answers.specs.Told.{of_tested}
use Rattle.outline.specs.Outline.{outline_of, outline_written}
use Rattle.readers.specs.declared.reading.Reading.{Reading}
use Rattle.puffsatchel.proofs.puffsatchel_outline.Goals as goal

pub returns-in_default : goal.returns-in_default
returns-in_default c = left_none c.args.reading (λ (g : Reading). of_tested (outline_of g c.args.source.now (length c.args.out.now))) _ _ (λ (g : Reading). outline_written g c.args.source.now (length c.args.out.now)) c.args.out.now _ (sym c.in_default.is ∙ c.reading_of.ensures) c.no_such_reading.ensures refl

pub returns : goal.returns
returns c = left_one c.args.reading (λ (g : Reading). of_tested (outline_of g c.args.source.now (length c.args.out.now))) _ _ (λ (g : Reading). outline_written g c.args.source.now (length c.args.out.now)) c.args.out.now _ c.in-Some.known (sym c.in-Some.is ∙ c.reading_of.ensures) (tells _ _ _ _ c.tell.ensures (c.from.ensures ∙ ap of_tested c.outline.ensures.0)) c.outline.ensures.1
