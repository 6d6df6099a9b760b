use mathlib.Core.Path.{sym, ap, ◌∙◌}
use Rattle.answers.proofs.Promises.{tells}
use Rattle.answers.proofs.Readings.{told_none, told_one}
use Rattle.answers.specs.Told.{of_read}
use Rattle.lexer.specs.Next.{next_at}
use Rattle.readers.specs.declared.reading.Reading.{Reading}
use Rattle.puffsatchel.proofs.puffsatchel_next.Goals as goal

pub returns-in_default : goal.returns-in_default
returns-in_default c = told_none c.args.reading (λ (g : Reading). of_read (next_at g c.args.source.now c.args.at)) _ _ (sym c.in_default.is ∙ c.reading_of.ensures) c.no_such_reading.ensures

pub returns : goal.returns
returns c = told_one c.args.reading (λ (g : Reading). of_read (next_at g c.args.source.now c.args.at)) _ _ c.in-Some.known (sym c.in-Some.is ∙ c.reading_of.ensures) (tells _ _ _ _ c.tell.ensures (c.from.ensures ∙ ap of_read c.next.ensures))
