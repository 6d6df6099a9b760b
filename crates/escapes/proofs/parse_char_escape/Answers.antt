use borrow.Author.Rules.{rules}
use mathlib.Core.Path.{◌≡◌, sym, ap, ◌∙◌}
use Rattle.escapes.specs.Escapes.{char_turn, shared_of, low_only}
use Rattle.text.specs.Utf8.{rest}
use Prim.Native.Nat.{ℕ}
use Rattle.escapes.proofs.Escapes.{char_end, char_line, char_only, char_shared, char_turn_law}
use Rattle.text.proofs.Decode.{step_none, step_one}
use Rattle.escapes.proofs.parse_char_escape.Goals as goal

pub returns-in_default : goal.returns-in_default
returns-in_default c = char_end _ _ _ _ (step_none _ _ (sym c.scalar_at.ensures ∙ c.in_default.is))

pub returns-in-10 : goal.returns-in-10
returns-in-10 c = c.line_end.ensures ∙ char_line _ _ _ _ _ c.in-10.is ∙ char_turn_law _ _ _ _ (step_one _ _ _ _ (sym c.scalar_at.ensures ∙ c.in-Some.is)) _ _

pub returns-in-36 : goal.returns-in-36
returns-in-36 c = c.template_escape.ensures ∙ char_only _ _ _ _ _ c.in-36.is ∙ char_turn_law _ _ _ _ (step_one _ _ _ _ (sym c.scalar_at.ensures ∙ c.in-Some.is)) _ _

pub returns-in-120 : goal.returns-in-120
unfolding char_turn
returns-in-120 c = c.low_only.ensures ∙ ap low_only c.parse_hex_escape.ensures ∙ sym (ap (λ (x : ℕ). char_turn c.args.template c.args.lines x (rest c.args.s.now c.in-Some.field-0.next) c.in-Some.field-0.next) c.in-120.is) ∙ char_turn_law _ _ _ _ (step_one _ _ _ _ (sym c.scalar_at.ensures ∙ c.in-Some.is)) _ _

pub returns-in-117 : goal.returns-in-117
unfolding char_turn
returns-in-117 c = c.parse_unicode_escape.ensures ∙ sym (ap (λ (x : ℕ). char_turn c.args.template c.args.lines x (rest c.args.s.now c.in-Some.field-0.next) c.in-Some.field-0.next) c.in-117.is) ∙ char_turn_law _ _ _ _ (step_one _ _ _ _ (sym c.scalar_at.ensures ∙ c.in-Some.is)) _ _

pub returns-in_default-value : goal.returns-in_default-value
returns-in_default-value c = c.shared_escape.ensures ∙ (let t : shared_of c.in-Some.field-0.value c.in-Some.field-0.next ≡ char_turn c.args.template c.args.lines c.in-Some.field-0.value (rest c.args.s.now c.in-Some.field-0.next) c.in-Some.field-0.next = search (rules, char_shared) in t) ∙ char_turn_law _ _ _ _ (step_one _ _ _ _ (sym c.scalar_at.ensures ∙ c.in-Some.is)) _ _
