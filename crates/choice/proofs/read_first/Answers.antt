use Prim.Native.Nat.{ℕ}
use mathlib.Core.Path.{◌≡◌, sym, ap, ◌∙◌}
use Rattle.choice.proofs.Choice.{b_byte, b_end, b_other, b_str, by_mark, first_other, first_str, first_white, other_any, slash_comment, slash_end, slash_line, slash_other}
use Rattle.choice.specs.Rule.{first_of, no_template, other_of}
use Rattle.readers.specs.Readers.{line_of, white_of}
use Rattle.readers.specs.Rules.{rules_of}
use Rattle.text.proofs.Decode.{step_none, step_one}
use Rattle.text.specs.Utf8.{rest}
use Rattle.token.specs.Reads.{got_of}
use Rattle.token.specs.declared.kind.Kind.TheVariants.{Comment, Whitespace}
use Rattle.choice.proofs.read_first.Goals as goal
use Rattle.choice.proofs.read_first.Goals.{then-value-eq-SLASH+in-Some+else-second-eq-SLASH+else-second-eq-STAR, then-value-eq-SLASH+in_default, else-value-eq-SLASH}
use Rattle.choice.proofs.read_first.Goals.{then-value-eq-LETTER_B+in-Some-scalar_at+else-second-eq-QUOTE+else-second-eq-DOUBLE_QUOTE, then-value-eq-LETTER_B+in_default-scalar_at, else-value-eq-LETTER_B}

pub returns-then-is_whitespace : goal.returns-then-is_whitespace
unfolding white_of
returns-then-is_whitespace c = c.got.ensures ∙ ap (got_of Whitespace c.args.start) c.consume_whitespace.ensures ∙ first_white c.args.reading no_template c.args.start (rest c.args.s.now c.args.first.next) c.args.first.next c.args.first.value (sym c.is_whitespace.ensures ∙ c.if-is_whitespace.true)

pub returns-then-value-eq-DOUBLE_QUOTE : goal.returns-then-value-eq-DOUBLE_QUOTE
returns-then-value-eq-DOUBLE_QUOTE c = c.next_str.ensures ∙ first_str c.args.reading no_template c.args.start (rest c.args.s.now c.args.first.next) c.args.first.next c.args.first.value c.if-value-eq-DOUBLE_QUOTE.true

pub returns-then-second-eq-SLASH : goal.returns-then-second-eq-SLASH
unfolding line_of
returns-then-second-eq-SLASH c = c.got-then-second-eq-SLASH.ensures ∙ ap (got_of Comment c.args.start) c.consume_line.ensures ∙ slash_line c.args.reading no_template c.args.start c.args.s.now c.args.first.next c.in-Some.second.value c.in-Some.second.next (step_one c.args.s.now c.args.first.next c.in-Some.second.value c.in-Some.second.next (sym c.scalar_at.ensures ∙ c.in-Some.is)) c.if-second-eq-SLASH.true ∙ sym (ap (λ (x : ℕ). first_of (rules_of c.args.reading) no_template x c.args.start (rest c.args.s.now c.args.first.next) c.args.first.next) c.if-value-eq-SLASH.true)

pub returns-then-second-eq-STAR : goal.returns-then-second-eq-STAR
returns-then-second-eq-STAR c = c.next_multiline_comment.ensures ∙ slash_comment c.args.reading no_template c.args.start c.args.s.now c.args.first.next c.in-Some.second.value c.in-Some.second.next (step_one c.args.s.now c.args.first.next c.in-Some.second.value c.in-Some.second.next (sym c.scalar_at.ensures ∙ c.in-Some.is)) c.if-second-eq-SLASH.false c.if-second-eq-STAR.true ∙ sym (ap (λ (x : ℕ). first_of (rules_of c.args.reading) no_template x c.args.start (rest c.args.s.now c.args.first.next) c.args.first.next) c.if-value-eq-SLASH.true)

pub returns-then-second-eq-QUOTE : goal.returns-then-second-eq-QUOTE
returns-then-second-eq-QUOTE c = c.next_lit_byte.ensures ∙ b_byte c.args.reading no_template c.args.start c.args.s.now c.args.first.next c.in-Some-scalar_at.second.value c.in-Some-scalar_at.second.next (step_one c.args.s.now c.args.first.next c.in-Some-scalar_at.second.value c.in-Some-scalar_at.second.next (sym c.scalar_at-then-value-eq-LETTER_B.ensures ∙ c.in-Some-scalar_at.is)) c.if-second-eq-QUOTE.true ∙ sym (ap (λ (x : ℕ). first_of (rules_of c.args.reading) no_template x c.args.start (rest c.args.s.now c.args.first.next) c.args.first.next) c.if-value-eq-LETTER_B.true)

pub returns-then-second-eq-DOUBLE_QUOTE : goal.returns-then-second-eq-DOUBLE_QUOTE
returns-then-second-eq-DOUBLE_QUOTE c = c.next_str-then-second-eq-DOUBLE_QUOTE.ensures ∙ b_str c.args.reading no_template c.args.start c.args.s.now c.args.first.next c.in-Some-scalar_at.second.value c.in-Some-scalar_at.second.next (step_one c.args.s.now c.args.first.next c.in-Some-scalar_at.second.value c.in-Some-scalar_at.second.next (sym c.scalar_at-then-value-eq-LETTER_B.ensures ∙ c.in-Some-scalar_at.is)) c.if-second-eq-QUOTE.false c.if-second-eq-DOUBLE_QUOTE.true ∙ sym (ap (λ (x : ℕ). first_of (rules_of c.args.reading) no_template x c.args.start (rest c.args.s.now c.args.first.next) c.args.first.next) c.if-value-eq-LETTER_B.true)

-- what the rules for `/` and `b` leave over
pub returns : goal.returns
returns c =
    let other : other_of (rules_of c.args.reading) no_template c.args.first.value c.args.start (rest c.args.s.now c.args.first.next) c.args.first.next ≡ first_of (rules_of c.args.reading) no_template c.args.first.value c.args.start (rest c.args.s.now c.args.first.next) c.args.first.next =
    elim c.if-value-eq-LETTER_B.branch [
      | then-value-eq-LETTER_B+in-Some-scalar_at+else-second-eq-QUOTE+else-second-eq-DOUBLE_QUOTE w ↦ by_mark c.args.reading no_template c.args.start (rest c.args.s.now c.args.first.next) c.args.first.next c.args.first.value 98 w.if-value-eq-LETTER_B.true (b_other c.args.reading no_template c.args.start c.args.s.now c.args.first.next w.in-Some-scalar_at.second.value w.in-Some-scalar_at.second.next (step_one c.args.s.now c.args.first.next w.in-Some-scalar_at.second.value w.in-Some-scalar_at.second.next (sym w.scalar_at-then-value-eq-LETTER_B.ensures ∙ w.in-Some-scalar_at.is)) w.if-second-eq-QUOTE.false w.if-second-eq-DOUBLE_QUOTE.false)
      | then-value-eq-LETTER_B+in_default-scalar_at w ↦ by_mark c.args.reading no_template c.args.start (rest c.args.s.now c.args.first.next) c.args.first.next c.args.first.value 98 w.if-value-eq-LETTER_B.true (b_end c.args.reading no_template c.args.start c.args.s.now c.args.first.next (step_none c.args.s.now c.args.first.next (sym w.scalar_at-then-value-eq-LETTER_B.ensures ∙ w.in_default-scalar_at.is)))
      | else-value-eq-LETTER_B no_b ↦
          elim c.if-value-eq-SLASH.branch [
            | then-value-eq-SLASH+in-Some+else-second-eq-SLASH+else-second-eq-STAR w ↦ by_mark c.args.reading no_template c.args.start (rest c.args.s.now c.args.first.next) c.args.first.next c.args.first.value 47 w.if-value-eq-SLASH.true (slash_other c.args.reading no_template c.args.start c.args.s.now c.args.first.next w.in-Some.second.value w.in-Some.second.next (step_one c.args.s.now c.args.first.next w.in-Some.second.value w.in-Some.second.next (sym w.scalar_at.ensures ∙ w.in-Some.is)) w.if-second-eq-SLASH.false w.if-second-eq-STAR.false)
            | then-value-eq-SLASH+in_default w ↦ by_mark c.args.reading no_template c.args.start (rest c.args.s.now c.args.first.next) c.args.first.next c.args.first.value 47 w.if-value-eq-SLASH.true (slash_end c.args.reading no_template c.args.start c.args.s.now c.args.first.next (step_none c.args.s.now c.args.first.next (sym w.scalar_at.ensures ∙ w.in_default.is)))
            | else-value-eq-SLASH w ↦ first_other c.args.reading no_template c.args.start (rest c.args.s.now c.args.first.next) c.args.first.next c.args.first.value (sym c.is_whitespace.ensures ∙ c.if-is_whitespace.false) c.if-value-eq-DOUBLE_QUOTE.false w.if-value-eq-SLASH.false no_b.if-value-eq-LETTER_B.false
          ]
    ] in
    c.read_other.ensures ∙ other_any c.args.reading no_template c.args.start (rest c.args.s.now c.args.first.next) c.args.first.next c.args.first.value ∙ other
