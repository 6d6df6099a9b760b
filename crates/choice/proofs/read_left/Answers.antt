use mathlib.Core.Path.{sym, ◌∙◌}
use Rattle.choice.proofs.Choice.{left_char, left_low, left_none, left_number, left_word}
use Rattle.choice.specs.Rule.{no_template}
use Rattle.readers.specs.Rules.{rune}
use Rattle.text.specs.Utf8.{rest}
use Rattle.choice.proofs.read_left.Goals as goal

pub returns-then-value-eq-UNDERSCORE : goal.returns-then-value-eq-UNDERSCORE
returns-then-value-eq-UNDERSCORE c = c.next_ident.ensures ∙ left_low rune no_template c.args.start (rest c.args.s.now c.args.first.next) c.args.first.next c.args.first.value c.if-value-eq-UNDERSCORE.true

pub returns-then-is_xid_start : goal.returns-then-is_xid_start
returns-then-is_xid_start c = c.next_ident-then-is_xid_start.ensures ∙ left_word rune no_template c.args.start (rest c.args.s.now c.args.first.next) c.args.first.next c.args.first.value c.if-value-eq-UNDERSCORE.false (sym c.is_xid_start.ensures ∙ c.if-is_xid_start.true)

pub returns-then-is_ascii_digit : goal.returns-then-is_ascii_digit
returns-then-is_ascii_digit c = c.next_number_literal.ensures ∙ left_number rune no_template c.args.start (rest c.args.s.now c.args.first.next) c.args.first.next c.args.first.value c.if-value-eq-UNDERSCORE.false (sym c.is_xid_start.ensures ∙ c.if-is_xid_start.false) (sym c.is_ascii_digit.ensures ∙ c.if-is_ascii_digit.true)

pub returns-then-value-eq-QUOTE : goal.returns-then-value-eq-QUOTE
returns-then-value-eq-QUOTE c = c.next_char_or_label.ensures ∙ left_char rune no_template c.args.start (rest c.args.s.now c.args.first.next) c.args.first.next c.args.first.value c.if-value-eq-UNDERSCORE.false (sym c.is_xid_start.ensures ∙ c.if-is_xid_start.false) (sym c.is_ascii_digit.ensures ∙ c.if-is_ascii_digit.false) c.if-value-eq-QUOTE.true

pub returns : goal.returns
returns c = c.refused.ensures ∙ left_none rune c.args.start (rest c.args.s.now c.args.first.next) c.args.first.next c.args.first.value c.if-value-eq-UNDERSCORE.false (sym c.is_xid_start.ensures ∙ c.if-is_xid_start.false) (sym c.is_ascii_digit.ensures ∙ c.if-is_ascii_digit.false) c.if-value-eq-QUOTE.false
