use Prim.Native.Nat.{ℕ}
use mathlib.Core.Path.{sym, ap, ◌∙◌}
use mathlib.Core.List.{List}
use Rattle.std.proofs.lemmas.Result.{err_from_is_err_and}
use Rattle.std.specs.Prelude.{Err}
use Rattle.looks.proofs.Answers.{asked_no, asked_yes}
use Rattle.looks.specs.Buffer.{view_of}
use lib.ListN.{get_or}
use mathlib.Core.List.{[]}
use Rattle.looks.specs.Answer.{done}
use Rattle.looks.specs.Calls.{Turn, nth_token_by}
use Rattle.looks.specs.Front.{nth_of}
use Rattle.looks.proofs.show.nth_token.Goals as goal

pub returns-in_err-ready_at : goal.returns-in_err-ready_at
unfolding nth_token_by
returns-in_err-ready_at c =
    let st = view_of c.args.state.now in
    let p = err_from_is_err_and c.from_residual.result c.from_residual.ensures.1 in
    let w = asked_no c.args.tested c.args.list.now c.args.n st (λ f. record { state = f; answer = done 0 (get_or (nth_of c.args.list.now c.args.n f) 0 0) (get_or (nth_of c.args.list.now c.args.n f) 1 0) (get_or (nth_of c.args.list.now c.args.n f) 2 0); written = [] }) _ c.ready_at.ensures.1 _ (sym c.ready_at.ensures.0 ∙ c.in_err-ready_at.was) in
    (w.0, p.1 ∙ ap Err p.2 ∙ w.1)

pub returns : goal.returns
unfolding nth_token_by
returns c =
    let st = view_of c.args.state.now in
    let w = asked_yes c.args.tested c.args.list.now c.args.n st (λ f. record { state = f; answer = done 0 (get_or (nth_of c.args.list.now c.args.n f) 0 0) (get_or (nth_of c.args.list.now c.args.n f) 1 0) (get_or (nth_of c.args.list.now c.args.n f) 2 0); written = [] }) _ c.ready_at.ensures.1 (sym c.ready_at.ensures.0 ∙ c.in_ok-ready_at.was) in
    (ap (λ (t : Turn). t.state) w, ap (λ (ws : List ℕ). done 0 (get_or ws 0 0) (get_or ws 1 0) (get_or ws 2 0)) c.nth_words-words.ensures ∙ ap (λ (t : Turn). t.answer) w)
