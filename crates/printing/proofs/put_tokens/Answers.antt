-- Each token ends past its start and inside the source. Assumes nothing.
use Rattle.std.proofs.Common.{arith, sym, ◌∙◌}
use Rattle.families.proofs.Refusals.{next_named}
use Rattle.families.proofs.Steps.{tokens_past, tokens_room}
use Rattle.printing.proofs.put_tokens.Goals as goal

pub loop-token-smaller : goal.loop-token-smaller
loop-token-smaller g c =
    omega (
      arith,
      tokens_past c.args.reading c.args.s.now c.loop-token.at c.next-answer.result c.next-answer.ensures c.in-Ok.token c.in-Ok.is c.if-end-at.false,
      tokens_room c.args.reading c.args.s.now c.loop-token.at c.next-answer.result c.next-answer.ensures c.in-Ok.token c.in-Ok.is c.if-end-at.false,
    )

pub loop-token-preserved : goal.loop-token-preserved
loop-token-preserved g c = (
  tokens_room c.args.reading c.args.s.now c.loop-token.at c.next-answer.result c.next-answer.ensures c.in-Ok.token c.in-Ok.is c.if-end-at.false,
  omega (arith, tokens_past c.args.reading c.args.s.now c.loop-token.at c.next-answer.result c.next-answer.ensures c.in-Ok.token c.in-Ok.is c.if-end-at.false),
)

pub returns-in_default : goal.returns-in_default
returns-in_default g c = next_named c.args.reading c.args.s.now c.loop-token.at _ (sym c.next-answer.ensures ∙ c.unwrap_err.ensures)
