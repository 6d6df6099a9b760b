use Rattle.std.specs.Prelude.{Err}
use Rattle.std.proofs.lemmas.Result.{err_from_is_err_and}
use mathlib.Core.Path.{sym, ap, ◌∙◌, subst}
use native.Mathlib.Omega.{arith}
use Rattle.findings.proofs.Turns.{after_full, after_went, turn_alone, turn_full, turn_less, turn_small, turn_went, walk_halt, walk_more, walk_whole, walked_first}
use Rattle.findings.specs.Notes.{AllSmall}
use Rattle.lexer.specs.Next.{next_at}
use Rattle.listing.specs.declared.Stopped.{Stopped}
use Rattle.readers.specs.declared.reading.Reading.{Reading}
use Rattle.findings.proofs.walk.find_tokens.Goals as goal

pub loop-at-init : goal.loop-at-init
loop-at-init c = walked_first c.args.reading c.args.s.now c.args.store.now c.args.first.words c.args.first.count _ c.requires.1 c.requires.2 (c.next.ensures ∙ ap (λ (f : Reading). next_at f c.args.s.now 0) c.under_first.ensures)

pub returns-then-reached-at : goal.returns-then-reached-at
returns-then-reached-at c = walk_whole c.args.reading c.args.s.now c.args.store.now c.args.first.words c.args.first.count c.loop-at.store c.loop-at.noted.words c.loop-at.noted.count c.loop-at.at c.loop-at.under.place c.loop-at.under.read c.loop-at.invariant c.next-a.result c.next-a.ensures (sym c.reached.ensures ∙ c.if-reached-at.true)

pub onward-under-requires : goal.onward-under-requires
onward-under-requires c = (c.loop-at.invariant.reads, c.loop-at.invariant.under, c.next-a.ensures)

pub note-requires : goal.note-requires
note-requires c = (c.loop-at.invariant.left.in_store, c.loop-at.invariant.left.few, subst AllSmall (sym c.across.ensures) (turn_small c.args.reading c.args.s.now c.args.store.now c.args.first.words c.args.first.count c.loop-at.store c.loop-at.noted.words c.loop-at.noted.count c.loop-at.at c.loop-at.under.place c.loop-at.under.read c.loop-at.invariant c.next-a.result c.next-a.ensures (λ z. c.if-reached-at.false (c.reached.ensures ∙ z)) c.onward-under.result.place c.onward-under.result.read c.onward-under.ensures.0 c.onward-under.ensures.1 c.onward-under.ensures.2 c.requires.0))

pub returns-in_err-noted : goal.returns-in_err-noted
returns-in_err-noted c =
    let q = err_from_is_err_and _ c.from_residual.ensures.1 in
    let w = turn_full c.args.reading c.args.s.now c.args.store.now c.args.first.words c.args.first.count c.loop-at.store c.loop-at.noted.words c.loop-at.noted.count c.loop-at.at c.loop-at.under.place c.loop-at.under.read c.loop-at.invariant c.next-a.result c.next-a.ensures (λ z. c.if-reached-at.false (c.reached.ensures ∙ z)) c.onward-under.result.place c.onward-under.result.read c.onward-under.ensures.0 c.onward-under.ensures.1 c.onward-under.ensures.2 c.across.result c.across.ensures _ c.note.result c.note.ensures _ c.in_err-noted.was in
    (q.1 ∙ ap (λ (x : Stopped). Err x) q.2 ∙ w.0, w.1)

pub returns-in_default : goal.returns-in_default
returns-in_default c = walk_halt c.args.reading c.args.s.now c.args.store.now c.args.first.words c.args.first.count c.loop-at.store c.loop-at.noted.words c.loop-at.noted.count c.loop-at.at c.loop-at.under.place c.loop-at.under.read c.loop-at.invariant c.next-a.result c.next-a.ensures (λ z. c.if-reached-at.false (c.reached.ensures ∙ z)) c.onward-under.result.place c.onward-under.result.read c.onward-under.ensures.0 c.onward-under.ensures.1 c.onward-under.ensures.2 _ c.in_ok-noted.noted.words c.in_ok-noted.noted.count (turn_went c.args.reading c.args.s.now c.args.store.now c.args.first.words c.args.first.count c.loop-at.store c.loop-at.noted.words c.loop-at.noted.count c.loop-at.at c.loop-at.under.place c.loop-at.under.read c.loop-at.invariant c.next-a.result c.next-a.ensures (λ z. c.if-reached-at.false (c.reached.ensures ∙ z)) c.onward-under.result.place c.onward-under.result.read c.onward-under.ensures.0 c.onward-under.ensures.1 c.onward-under.ensures.2 c.across.result c.across.ensures _ c.note.result c.note.ensures c.in_ok-noted.noted.words c.in_ok-noted.noted.count c.in_ok-noted.was) c.unwrap_err.result c.unwrap_err.ensures

pub note-requires-in-loop-at : goal.note-requires-in-loop-at
note-requires-in-loop-at c =
    let w = (turn_went c.args.reading c.args.s.now c.args.store.now c.args.first.words c.args.first.count c.loop-at.store c.loop-at.noted.words c.loop-at.noted.count c.loop-at.at c.loop-at.under.place c.loop-at.under.read c.loop-at.invariant c.next-a.result c.next-a.ensures (λ z. c.if-reached-at.false (c.reached.ensures ∙ z)) c.onward-under.result.place c.onward-under.result.read c.onward-under.ensures.0 c.onward-under.ensures.1 c.onward-under.ensures.2 c.across.result c.across.ensures _ c.note.result c.note.ensures c.in_ok-noted.noted.words c.in_ok-noted.noted.count c.in_ok-noted.was) in
    (w.in_store, w.few, subst AllSmall (sym c.alone.ensures) (turn_alone c.args.reading c.args.s.now c.args.store.now c.args.first.words c.args.first.count c.loop-at.store c.loop-at.noted.words c.loop-at.noted.count c.loop-at.at c.loop-at.under.place c.loop-at.under.read c.loop-at.invariant c.next-a.result c.next-a.ensures (λ z. c.if-reached-at.false (c.reached.ensures ∙ z)) c.onward-under.result.place c.onward-under.result.read c.onward-under.ensures.0 c.onward-under.ensures.1 c.onward-under.ensures.2 c.in-Ok.token c.in-Ok.is c.requires.0))

pub returns-in_err-noted-2 : goal.returns-in_err-noted-2
returns-in_err-noted-2 c =
    let q = err_from_is_err_and _ c.from_residual-in_err-noted-2.ensures.1 in
    let w = after_full c.args.reading c.args.s.now c.args.store.now c.args.first.words c.args.first.count c.loop-at.store c.loop-at.noted.words c.loop-at.noted.count c.loop-at.at c.loop-at.under.place c.loop-at.under.read c.loop-at.invariant c.next-a.result c.next-a.ensures (λ z. c.if-reached-at.false (c.reached.ensures ∙ z)) c.onward-under.result.place c.onward-under.result.read c.onward-under.ensures.0 c.onward-under.ensures.1 c.onward-under.ensures.2 c.in-Ok.token c.in-Ok.is _ c.in_ok-noted.noted.words c.in_ok-noted.noted.count (turn_went c.args.reading c.args.s.now c.args.store.now c.args.first.words c.args.first.count c.loop-at.store c.loop-at.noted.words c.loop-at.noted.count c.loop-at.at c.loop-at.under.place c.loop-at.under.read c.loop-at.invariant c.next-a.result c.next-a.ensures (λ z. c.if-reached-at.false (c.reached.ensures ∙ z)) c.onward-under.result.place c.onward-under.result.read c.onward-under.ensures.0 c.onward-under.ensures.1 c.onward-under.ensures.2 c.across.result c.across.ensures _ c.note.result c.note.ensures c.in_ok-noted.noted.words c.in_ok-noted.noted.count c.in_ok-noted.was) c.alone.result c.alone.ensures _ c.note-in-loop-at.result c.note-in-loop-at.ensures _ c.in_err-noted-2.was in
    (q.1 ∙ ap (λ (x : Stopped). Err x) q.2 ∙ w.0, w.1)

pub loop-at-smaller : goal.loop-at-smaller
loop-at-smaller c = omega (arith, turn_less c.args.reading c.args.s.now c.args.store.now c.args.first.words c.args.first.count c.loop-at.store c.loop-at.noted.words c.loop-at.noted.count c.loop-at.at c.loop-at.under.place c.loop-at.under.read c.loop-at.invariant c.next-a.result c.next-a.ensures (λ z. c.if-reached-at.false (c.reached.ensures ∙ z)) c.onward-under.result.place c.onward-under.result.read c.onward-under.ensures.0 c.onward-under.ensures.1 c.onward-under.ensures.2 c.in-Ok.token c.in-Ok.is)

pub loop-at-preserved : goal.loop-at-preserved
loop-at-preserved c = walk_more c.args.reading c.args.s.now c.args.store.now c.args.first.words c.args.first.count c.loop-at.store c.loop-at.noted.words c.loop-at.noted.count c.loop-at.at c.loop-at.under.place c.loop-at.under.read c.loop-at.invariant c.next-a.result c.next-a.ensures (λ z. c.if-reached-at.false (c.reached.ensures ∙ z)) c.onward-under.result.place c.onward-under.result.read c.onward-under.ensures.0 c.onward-under.ensures.1 c.onward-under.ensures.2 c.in-Ok.token c.in-Ok.is _ c.in_ok-noted-2.noted.words c.in_ok-noted-2.noted.count (after_went c.args.reading c.args.s.now c.args.store.now c.args.first.words c.args.first.count c.loop-at.store c.loop-at.noted.words c.loop-at.noted.count c.loop-at.at c.loop-at.under.place c.loop-at.under.read c.loop-at.invariant c.next-a.result c.next-a.ensures (λ z. c.if-reached-at.false (c.reached.ensures ∙ z)) c.onward-under.result.place c.onward-under.result.read c.onward-under.ensures.0 c.onward-under.ensures.1 c.onward-under.ensures.2 c.in-Ok.token c.in-Ok.is _ c.in_ok-noted.noted.words c.in_ok-noted.noted.count (turn_went c.args.reading c.args.s.now c.args.store.now c.args.first.words c.args.first.count c.loop-at.store c.loop-at.noted.words c.loop-at.noted.count c.loop-at.at c.loop-at.under.place c.loop-at.under.read c.loop-at.invariant c.next-a.result c.next-a.ensures (λ z. c.if-reached-at.false (c.reached.ensures ∙ z)) c.onward-under.result.place c.onward-under.result.read c.onward-under.ensures.0 c.onward-under.ensures.1 c.onward-under.ensures.2 c.across.result c.across.ensures _ c.note.result c.note.ensures c.in_ok-noted.noted.words c.in_ok-noted.noted.count c.in_ok-noted.was) c.alone.result c.alone.ensures _ c.note-in-loop-at.result c.note-in-loop-at.ensures c.in_ok-noted-2.noted.words c.in_ok-noted-2.noted.count c.in_ok-noted-2.was)
