use borrow.Author.Rules.{rules}
use mathlib.Core.Path.{◌≡◌, sym, ap, ◌∙◌}
use Rattle.escapes.specs.Escapes.{byte_turn, shared_of}
use Rattle.text.specs.Utf8.{rest}
use Prim.Native.Nat.{ℕ}
use Rattle.escapes.proofs.Escapes.{byte_end, byte_line, byte_shared, byte_turn_law}
use Rattle.text.proofs.Decode.{step_none, step_one}
use Rattle.escapes.proofs.parse_byte_escape.Goals as goal

pub returns-in_default : goal.returns-in_default
returns-in_default c = byte_end _ _ _ (step_none _ _ (sym c.scalar_at.ensures ∙ c.in_default.is))

pub returns-in-10 : goal.returns-in-10
returns-in-10 c = c.line_end.ensures ∙ byte_line _ _ _ _ c.in-10.is ∙ byte_turn_law _ _ _ _ (step_one _ _ _ _ (sym c.scalar_at.ensures ∙ c.in-Some.is)) _

pub returns-in-120 : goal.returns-in-120
unfolding byte_turn
returns-in-120 c = c.parse_hex_escape.ensures ∙ sym (ap (λ (x : ℕ). byte_turn c.args.lines x (rest c.args.s.now c.in-Some.field-0.next) c.in-Some.field-0.next) c.in-120.is) ∙ byte_turn_law _ _ _ _ (step_one _ _ _ _ (sym c.scalar_at.ensures ∙ c.in-Some.is)) _

pub returns-in-117 : goal.returns-in-117
unfolding byte_turn
returns-in-117 c = sym (ap (λ (x : ℕ). byte_turn c.args.lines x (rest c.args.s.now c.in-Some.field-0.next) c.in-Some.field-0.next) c.in-117.is) ∙ byte_turn_law _ _ _ _ (step_one _ _ _ _ (sym c.scalar_at.ensures ∙ c.in-Some.is)) _

pub returns-in_default-value : goal.returns-in_default-value
returns-in_default-value c = c.shared_escape.ensures ∙ (let t : shared_of c.in-Some.field-0.value c.in-Some.field-0.next ≡ byte_turn c.args.lines c.in-Some.field-0.value (rest c.args.s.now c.in-Some.field-0.next) c.in-Some.field-0.next = search (rules, byte_shared) in t) ∙ byte_turn_law _ _ _ _ (step_one _ _ _ _ (sym c.scalar_at.ensures ∙ c.in-Some.is)) _
