-- Every answer cites a turn law. Assumes nothing.
use Rattle.std.proofs.Common.{sym, refl, ap, ◌∙◌, arith}
use Rattle.readers.specs.Rules.{rules_of}
use Rattle.templates.proofs.Turns.{after_deep, after_got, after_refused, body_close, body_down, body_end, body_other, body_up, body_within, deep_none, deep_some, reached_past, reached_room, token_deep, token_end, token_plain}
use Rattle.templates.specs.Body.{template_of, token_of}
use Rattle.text.proofs.Decode.{step_none, step_one}
use Rattle.text.specs.Utf8.{rest}
use Rattle.token.specs.Reads.{reached_of}
use borrow.Author.Tests.{eqb-false, eqb-true}
use Rattle.templates.proofs.+read_template_read_token.Goals as goal

pub read_template-loop-value-init : goal.read_template-loop-value-init
unfolding template_of
read_template-loop-value-init t c = (refl, omega arith)

pub read_template-returns-in_default : goal.read_template-returns-in_default
read_template-returns-in_default t c = c.got.ensures ∙ body_end c.args.reading (token_of (rules_of c.args.reading) c.args.depth) c.args.start c.args.s.now c.loop-value.p c.loop-value.level (step_none c.args.s.now c.loop-value.p (sym c.scalar_at.ensures ∙ c.in_default.is)) ∙ c.loop-value.invariant.0

pub read_template-returns-then-level-eq0 : goal.read_template-returns-then-level-eq0
read_template-returns-then-level-eq0 t c = c.got-then-level-eq0.ensures ∙ body_close c.args.reading (token_of (rules_of c.args.reading) c.args.depth) c.args.start c.args.s.now c.loop-value.p c.loop-value.level c.in-Some.field-0.value c.in-Some.field-0.next (step_one c.args.s.now c.loop-value.p c.in-Some.field-0.value c.in-Some.field-0.next (sym c.scalar_at.ensures ∙ c.in-Some.is)) c.if-value-eq-BACKTICK.true c.if-level-eq0.true ∙ c.loop-value.invariant.0

pub read_template-loop-value-smaller-then-value-eq-BACKTICK : goal.read_template-loop-value-smaller-then-value-eq-BACKTICK
read_template-loop-value-smaller-then-value-eq-BACKTICK t c = let k = (step_one c.args.s.now c.loop-value.p c.in-Some.field-0.value c.in-Some.field-0.next (sym c.scalar_at.ensures ∙ c.in-Some.is)) in omega arith

pub read_template-loop-value-preserved-then-value-eq-BACKTICK : goal.read_template-loop-value-preserved-then-value-eq-BACKTICK
read_template-loop-value-preserved-then-value-eq-BACKTICK t c = (body_within c.args.reading (token_of (rules_of c.args.reading) c.args.depth) c.args.start c.args.s.now c.loop-value.p c.loop-value.level c.in-Some.field-0.value c.in-Some.field-0.next (step_one c.args.s.now c.loop-value.p c.in-Some.field-0.value c.in-Some.field-0.next (sym c.scalar_at.ensures ∙ c.in-Some.is)) c.if-value-eq-BACKTICK.true c.if-level-eq0.false ∙ c.loop-value.invariant.0, c.loop-value.invariant.1)

pub read_template-loop-value-smaller-then-value-eq-OPEN_BRACE : goal.read_template-loop-value-smaller-then-value-eq-OPEN_BRACE
read_template-loop-value-smaller-then-value-eq-OPEN_BRACE t c = let k = (step_one c.args.s.now c.loop-value.p c.in-Some.field-0.value c.in-Some.field-0.next (sym c.scalar_at.ensures ∙ c.in-Some.is)) in omega arith

pub read_template-loop-value-preserved-then-value-eq-OPEN_BRACE : goal.read_template-loop-value-preserved-then-value-eq-OPEN_BRACE
read_template-loop-value-preserved-then-value-eq-OPEN_BRACE t c = (body_up c.args.reading (token_of (rules_of c.args.reading) c.args.depth) c.args.start c.args.s.now c.loop-value.p c.loop-value.level c.in-Some.field-0.value c.in-Some.field-0.next (step_one c.args.s.now c.loop-value.p c.in-Some.field-0.value c.in-Some.field-0.next (sym c.scalar_at.ensures ∙ c.in-Some.is)) c.if-value-eq-OPEN_BRACE.true ∙ c.loop-value.invariant.0, omega arith)

pub read_template-loop-value-smaller-then-value-eq-CLOSE_BRACE : goal.read_template-loop-value-smaller-then-value-eq-CLOSE_BRACE
read_template-loop-value-smaller-then-value-eq-CLOSE_BRACE t c = let k = (step_one c.args.s.now c.loop-value.p c.in-Some.field-0.value c.in-Some.field-0.next (sym c.scalar_at.ensures ∙ c.in-Some.is)) in omega arith

pub read_template-loop-value-preserved-then-value-eq-CLOSE_BRACE : goal.read_template-loop-value-preserved-then-value-eq-CLOSE_BRACE
read_template-loop-value-preserved-then-value-eq-CLOSE_BRACE t c = (body_down c.args.reading (token_of (rules_of c.args.reading) c.args.depth) c.args.start c.args.s.now c.loop-value.p c.loop-value.level c.in-Some.field-0.value c.in-Some.field-0.next (step_one c.args.s.now c.loop-value.p c.in-Some.field-0.value c.in-Some.field-0.next (sym c.scalar_at.ensures ∙ c.in-Some.is)) c.if-value-eq-CLOSE_BRACE.true ∙ c.loop-value.invariant.0, omega arith)

pub read_template-read_token-requires : goal.read_template-read_token-requires
read_template-read_token-requires t c = (omega arith, tt)

pub read_template-loop-value-smaller-in-Ok : goal.read_template-loop-value-smaller-in-Ok
read_template-loop-value-smaller-in-Ok t c = let e = ap reached_of c.in-Ok.is in omega (arith, reached_past c.args.reading c.args.depth c.args.start c.args.s.now c.loop-value.p c.loop-value.level c.in-Some.field-0.value c.in-Some.field-0.next (step_one c.args.s.now c.loop-value.p c.in-Some.field-0.value c.in-Some.field-0.next (sym c.scalar_at.ensures ∙ c.in-Some.is)) c.if-value-eq-BACKSLASH.true c.read_token.result c.read_token.ensures, reached_room c.args.reading c.args.depth c.args.start c.args.s.now c.loop-value.p c.loop-value.level c.in-Some.field-0.value c.in-Some.field-0.next (step_one c.args.s.now c.loop-value.p c.in-Some.field-0.value c.in-Some.field-0.next (sym c.scalar_at.ensures ∙ c.in-Some.is)) c.if-value-eq-BACKSLASH.true c.read_token.result c.read_token.ensures)

pub read_template-loop-value-preserved-in-Ok : goal.read_template-loop-value-preserved-in-Ok
read_template-loop-value-preserved-in-Ok t c = (after_got c.args.reading c.args.depth c.args.start c.args.s.now c.loop-value.p c.loop-value.level c.in-Some.field-0.value c.in-Some.field-0.next (step_one c.args.s.now c.loop-value.p c.in-Some.field-0.value c.in-Some.field-0.next (sym c.scalar_at.ensures ∙ c.in-Some.is)) c.if-value-eq-BACKSLASH.true c.read_token.result c.read_token.ensures c.in-Ok.token c.in-Ok.is ∙ c.loop-value.invariant.0, c.loop-value.invariant.1)

pub read_template-returns-then-eq : goal.read_template-returns-then-eq
read_template-returns-then-eq t c = c.refused.ensures ∙ after_deep c.args.reading c.args.depth c.args.start c.args.s.now c.loop-value.p c.loop-value.level c.in-Some.field-0.value c.in-Some.field-0.next (step_one c.args.s.now c.loop-value.p c.in-Some.field-0.value c.in-Some.field-0.next (sym c.scalar_at.ensures ∙ c.in-Some.is)) c.if-value-eq-BACKSLASH.true c.read_token.result c.read_token.ensures c.in-Err.field-0 c.in-Err.is (eqb-true _ 19 (sym c.eq.ensures ∙ c.if-eq.true)) ∙ c.loop-value.invariant.0

pub read_template-loop-value-smaller-in-Err : goal.read_template-loop-value-smaller-in-Err
read_template-loop-value-smaller-in-Err t c = let e = ap reached_of c.in-Err.is in omega (arith, reached_past c.args.reading c.args.depth c.args.start c.args.s.now c.loop-value.p c.loop-value.level c.in-Some.field-0.value c.in-Some.field-0.next (step_one c.args.s.now c.loop-value.p c.in-Some.field-0.value c.in-Some.field-0.next (sym c.scalar_at.ensures ∙ c.in-Some.is)) c.if-value-eq-BACKSLASH.true c.read_token.result c.read_token.ensures, reached_room c.args.reading c.args.depth c.args.start c.args.s.now c.loop-value.p c.loop-value.level c.in-Some.field-0.value c.in-Some.field-0.next (step_one c.args.s.now c.loop-value.p c.in-Some.field-0.value c.in-Some.field-0.next (sym c.scalar_at.ensures ∙ c.in-Some.is)) c.if-value-eq-BACKSLASH.true c.read_token.result c.read_token.ensures)

pub read_template-loop-value-preserved-in-Err : goal.read_template-loop-value-preserved-in-Err
read_template-loop-value-preserved-in-Err t c = (after_refused c.args.reading c.args.depth c.args.start c.args.s.now c.loop-value.p c.loop-value.level c.in-Some.field-0.value c.in-Some.field-0.next (step_one c.args.s.now c.loop-value.p c.in-Some.field-0.value c.in-Some.field-0.next (sym c.scalar_at.ensures ∙ c.in-Some.is)) c.if-value-eq-BACKSLASH.true c.read_token.result c.read_token.ensures c.in-Err.field-0 c.in-Err.is (eqb-false _ 19 (sym c.eq.ensures ∙ c.if-eq.false)) ∙ c.loop-value.invariant.0, c.loop-value.invariant.1)

pub read_template-loop-value-smaller : goal.read_template-loop-value-smaller
read_template-loop-value-smaller t c = let k = (step_one c.args.s.now c.loop-value.p c.in-Some.field-0.value c.in-Some.field-0.next (sym c.scalar_at.ensures ∙ c.in-Some.is)) in omega arith

pub read_template-loop-value-preserved : goal.read_template-loop-value-preserved
read_template-loop-value-preserved t c = (body_other c.args.reading (token_of (rules_of c.args.reading) c.args.depth) c.args.start c.args.s.now c.loop-value.p c.loop-value.level c.in-Some.field-0.value c.in-Some.field-0.next (step_one c.args.s.now c.loop-value.p c.in-Some.field-0.value c.in-Some.field-0.next (sym c.scalar_at.ensures ∙ c.in-Some.is)) c.if-value-eq-BACKTICK.false c.if-value-eq-OPEN_BRACE.false c.if-value-eq-CLOSE_BRACE.false c.if-value-eq-BACKSLASH.false ∙ c.loop-value.invariant.0, c.loop-value.invariant.1)

pub read_token-returns-in_default : goal.read_token-returns-in_default
read_token-returns-in_default t c = c.got.ensures ∙ token_end c.args.reading c.args.depth c.args.s.now c.args.at (step_none c.args.s.now c.args.at (sym c.scalar_at.ensures ∙ c.in_default.is))

pub read_token-returns-then-value-ne-BACKTICK : goal.read_token-returns-then-value-ne-BACKTICK
read_token-returns-then-value-ne-BACKTICK t c = c.read_first.ensures ∙ token_plain c.args.reading c.args.depth c.args.s.now c.args.at c.in-Some.first.value c.in-Some.first.next (step_one c.args.s.now c.args.at c.in-Some.first.value c.in-Some.first.next (sym c.scalar_at.ensures ∙ c.in-Some.is)) c.if-value-ne-BACKTICK.true

pub read_token-returns-then-depth-eq0 : goal.read_token-returns-then-depth-eq0
read_token-returns-then-depth-eq0 t c = c.refused.ensures ∙ deep_none c.args.reading c.args.depth c.args.at (rest c.args.s.now c.in-Some.first.next) c.in-Some.first.next c.if-depth-eq0.true ∙ token_deep c.args.reading c.args.depth c.args.s.now c.args.at c.in-Some.first.value c.in-Some.first.next (step_one c.args.s.now c.args.at c.in-Some.first.value c.in-Some.first.next (sym c.scalar_at.ensures ∙ c.in-Some.is)) c.if-value-ne-BACKTICK.false

pub read_token-read_template-requires : goal.read_token-read_template-requires
read_token-read_template-requires t c = (omega arith, tt)

pub read_token-returns : goal.read_token-returns
read_token-returns t c = c.read_template.ensures ∙ deep_some c.args.reading c.args.depth c.args.at (rest c.args.s.now c.in-Some.first.next) c.in-Some.first.next c.if-depth-eq0.false ∙ token_deep c.args.reading c.args.depth c.args.s.now c.args.at c.in-Some.first.value c.in-Some.first.next (step_one c.args.s.now c.args.at c.in-Some.first.value c.in-Some.first.next (sym c.scalar_at.ensures ∙ c.in-Some.is)) c.if-value-ne-BACKTICK.false
