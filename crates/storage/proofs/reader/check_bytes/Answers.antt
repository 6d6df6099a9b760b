use Rattle.std.specs.Prelude.{Err}
use Rattle.std.proofs.lemmas.Result.{err_from_is_err_and}
use Rattle.token.specs.declared.read.Refusal.{Refusal}
use mathlib.Core.List.{List, [], map}
use lib.ListN.{get_or}
use mathlib.Core.Logic.{inl, inr}
use mathlib.Core.Path.{◌≡◌, refl, sym, ap, ◌∙◌, subst}
use Prim.Native.Nat.{ℕ, ◌+◌}
use borrow.Author.Tests.{eq-eqb, eqb-true}
use Rattle.laws.proofs.Cases.{never}
use Rattle.rows.specs.declared.Record.{Record}
use Rattle.rows.proofs.Rows.{LeftOf, left_end, left_more, left_stop}
use Rattle.rows.specs.Rows.{rows_check}
use Rattle.storage.proofs.ReadRecords.{bytes_checked, bytes_refused, marked, records_cut, unmarked}
use Rattle.storage.specs.Reader.{byte_row, bytes_check}
use Rattle.storage.proofs.reader.check_bytes.Goals.{Else-not-is_empty, then-bytes-ne-MARK_FIRST-via-then-bytes-ne-MARK_FIRST, then-bytes-ne-MARK_FIRST-via-else-bytes-ne-MARK_FIRST+then-bytes-ne-MARK_SECOND}
use Rattle.storage.proofs.reader.check_bytes.Goals as goal

-- the check of the arrays is that of the bytes
arrays : (c : Else-not-is_empty) → rows_check 0 0 (map byte_row c.as_chunks.result.0.now) ≡ bytes_check c.args.bytes.now
arrays c =
    ap (λ (rs : List (List ℕ)). rows_check 0 0 (map byte_row rs)) c.as_chunks.ensures.front ∙ ap (rows_check 0 0) (records_cut c.args.bytes.now)
    ∙ bytes_checked c.args.bytes.now (sym c.as_chunks.ensures.back_len ∙ eqb-true _ _ (sym c.if-not-is_empty.ensures))

pub returns-then-not-is_empty : goal.returns-then-not-is_empty
returns-then-not-is_empty c = c.faulty.ensures ∙ bytes_refused c.args.bytes.now (λ z. never (let a = c.if-not-is_empty.ensures in let b = c.as_chunks.ensures.back_len in let e = eq-eqb _ _ (b ∙ z) in cc))

pub loop-n-init : goal.loop-n-init
loop-n-init c = refl

pub returns-then-bytes-ne-MARK_FIRST : goal.returns-then-bytes-ne-MARK_FIRST
returns-then-bytes-ne-MARK_FIRST c =
    c.faulty-then-bytes-ne-MARK_FIRST.ensures ∙ left_stop byte_row _ _ _ c.loop-n.invariant c.loop-n-test.true _ (unmarked (get_or c.as_chunks.result.0.now c.loop-n.n []) _ c.loop-n.last (elim c.then-bytes-ne-MARK_FIRST.branch [ then-bytes-ne-MARK_FIRST-via-then-bytes-ne-MARK_FIRST w ↦ inl w.if-bytes-ne-MARK_FIRST.true | then-bytes-ne-MARK_FIRST-via-else-bytes-ne-MARK_FIRST+then-bytes-ne-MARK_SECOND w ↦ inr w.if-bytes-ne-MARK_SECOND.true ])) ∙ arrays (goal.at.returns-then-bytes-ne-MARK_FIRST c).Else-not-is_empty

pub returns-in_err-check : goal.returns-in_err-check
returns-in_err-check c =
    let q = err_from_is_err_and _ c.from_residual.ensures.1 in
    q.1 ∙ ap (λ (r : Refusal). Err r) q.2
    ∙ left_stop byte_row _ _ _ c.loop-n.invariant c.loop-n-test.true _ (c.in_err-check.ensures ∙ marked (get_or c.as_chunks.result.0.now c.loop-n.n []) _ _ c.if-bytes-ne-MARK_FIRST.false c.if-bytes-ne-MARK_SECOND.false _ c.record_in-record.ensures) ∙ arrays (goal.at.returns-in_err-check c).Else-not-is_empty

pub loop-n-preserved : goal.loop-n-preserved
loop-n-preserved c =
    let m = left_more byte_row _ _ _ c.loop-n.invariant c.loop-n-test.true (c.in_ok-check.ensures ∙ marked (get_or c.as_chunks.result.0.now c.loop-n.n []) _ _ c.if-bytes-ne-MARK_FIRST.false c.if-bytes-ne-MARK_SECOND.false _ c.record_in-record.ensures) in
    subst (λ (k : ℕ). LeftOf byte_row c.as_chunks.result.0.now (c.loop-n.n + 1) k) (sym (ap (λ (t : Record). t.end) c.record_in-record.ensures)) m

pub returns : goal.returns
returns c = left_end byte_row _ _ _ c.loop-n.invariant c.loop-n-test.false ∙ arrays (goal.at.returns c).Else-not-is_empty
