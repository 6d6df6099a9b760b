use Rattle.std.specs.Prelude.{Err}
use Rattle.std.proofs.lemmas.Result.{err_from_is_err_and}
use Rattle.token.specs.declared.read.Refusal.{Refusal}
use mathlib.Core.List.{List, map}
use mathlib.Core.Path.{◌≡◌, refl, sym, ap, ◌∙◌}
use Prim.Native.Nat.{ℕ}
use borrow.Author.Tests.{eqb-true}
use Rattle.rows.proofs.Rows.{left_end, left_more, left_stop, list_chunked}
use Rattle.rows.specs.Rows.{list_check, rows_check, word_row}
use Rattle.rows.proofs.check_list.Goals.{Else-not-is_empty}
use Rattle.rows.proofs.check_list.Goals as goal

-- the check of the arrays is that of the list
arrays : (c : Else-not-is_empty) → rows_check 0 0 (map word_row c.as_chunks.result.0.now) ≡ list_check c.args.list.now
arrays c = ap (λ (rs : List (List ℕ)). rows_check 0 0 (map word_row rs)) c.as_chunks.ensures.front ∙ list_chunked c.args.list.now (sym c.as_chunks.ensures.back_len ∙ eqb-true _ _ (sym c.if-not-is_empty.ensures))

pub loop-n-init : goal.loop-n-init
loop-n-init c = refl

pub returns-in_err-check : goal.returns-in_err-check
returns-in_err-check c =
    let q = err_from_is_err_and _ c.from_residual.ensures.1 in
    q.1 ∙ ap (λ (r : Refusal). Err r) q.2 ∙ left_stop word_row _ _ _ c.loop-n.invariant c.loop-n-test.true _ c.in_err-check.ensures ∙ arrays (goal.at.returns-in_err-check c).Else-not-is_empty

pub loop-n-preserved : goal.loop-n-preserved
loop-n-preserved c = left_more word_row _ _ _ c.loop-n.invariant c.loop-n-test.true c.in_ok-check.ensures

pub returns : goal.returns
returns c = left_end word_row _ _ _ c.loop-n.invariant c.loop-n-test.false ∙ arrays (goal.at.returns c).Else-not-is_empty
