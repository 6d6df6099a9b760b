use mathlib.Core.Path.{refl, sym, ap, ◌∙◌}
use Rattle.answers.specs.Told.{of_counted}
use Rattle.answers.proofs.Promises.{tells}
use Rattle.puffsatchel_bytes.proofs.Tells.{by_form, by_none}
use Rattle.puffsatchel_bytes.proofs.puffsatchel_unescape.Goals as goal

pub returns-in_default : goal.returns-in_default
returns-in_default c = by_none _ _ _ _ _ _ refl (sym c.in_default.is ∙ c.form_of.ensures) (tells _ _ _ _ c.tell.ensures c.point.ensures)

pub returns : goal.returns
returns c = by_form _ _ c.args.body.now c.args.out.now _ _ _ (sym c.in-Some.is ∙ c.form_of.ensures) (tells _ _ _ _ c.tell-2.ensures (c.from.ensures ∙ ap of_counted c.unescape.ensures.answer)) c.unescape.ensures.bytes
