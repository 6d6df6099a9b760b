use Rattle.std.specs.Prelude.{Err}
use Rattle.std.proofs.lemmas.Result.{err_from_is_err_and}
use Rattle.listing.specs.declared.Stopped.{Stopped}
use mathlib.Core.Path.{sym, ap, ◌∙◌, subst}
use native.Mathlib.Omega.{arith}
use Rattle.findings.proofs.Turns.{all_full, all_then, all_went, mark_small}
use Rattle.findings.specs.Notes.{AllSmall}
use Rattle.text.specs.Utf8.{rest}
use Rattle.findings.proofs.walk.find_all.Goals as goal

pub note-requires : goal.note-requires
note-requires c = (omega arith, omega arith, subst AllSmall (sym c.mark.ensures) (mark_small (rest c.args.s.now 0)))

pub find_tokens-requires : goal.find_tokens-requires
find_tokens-requires c = let w = all_went c.args.reading c.args.s.now c.args.store.now c.mark.result c.mark.ensures _ c.note.result c.note.ensures c.in_ok-noted.noted.words c.in_ok-noted.noted.count c.in_ok-noted.was in (c.requires, w.in_store, w.few)

pub returns-in_err-noted : goal.returns-in_err-noted
returns-in_err-noted c =
    let q = err_from_is_err_and _ c.from_residual.ensures.1 in
    let w = all_full c.args.reading c.args.s.now c.args.store.now c.mark.result c.mark.ensures _ c.note.result c.note.ensures _ c.in_err-noted.was in
    (q.1 ∙ ap (λ (x : Stopped). Err x) q.2 ∙ w.0, w.1)

pub returns : goal.returns
returns c = all_then c.args.reading c.args.s.now c.args.store.now c.mark.result c.mark.ensures _ c.note.result c.note.ensures c.in_ok-noted.noted.words c.in_ok-noted.noted.count c.in_ok-noted.was _ _ c.find_tokens.ensures
