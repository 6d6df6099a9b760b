use mathlib.Core.Path.{sym, ◌∙◌}
use Rattle.choice.proofs.Choice.{other_found, other_left}
use Rattle.choice.specs.Rule.{no_template}
use Rattle.readers.specs.Rules.{rune}
use Rattle.text.specs.Utf8.{rest}
use Rattle.choice.proofs.read_other.Goals as goal

pub returns-in_default : goal.returns-in_default
returns-in_default c = c.read_left.ensures ∙ other_left rune no_template c.args.start (rest c.args.s.now c.args.first.next) c.args.first.next c.args.first.value (sym c.next_operator.ensures ∙ c.in_default.is)

pub returns : goal.returns
returns c = c.got.ensures ∙ other_found rune no_template c.args.start (rest c.args.s.now c.args.first.next) c.args.first.next c.args.first.value _ _ (sym c.next_operator.ensures ∙ c.in-Some.is)
