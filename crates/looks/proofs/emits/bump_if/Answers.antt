use Prim.Native.Nat.{ℕ, ◌+◌}
use mathlib.Core.Path.{refl, sym, ap, ◌∙◌}
use mathlib.Core.List.{List}
use native.Mathlib.Omega.{arith}
use Rattle.std.proofs.lemmas.Result.{err_from_is_err_and}
use Rattle.std.specs.Prelude.{Err}
use Rattle.std.specs.Prelude.{Ok}
use Rattle.looks.proofs.Turns.{zeros}
use Rattle.looks.specs.declared.look.Done.{Done}
use lib.Dec.{eqb}
use borrow.Author.Tests.{eq-eqb, ne_eqb}
use Rattle.std.specs.Prelude.{Ok}
use lib.Seq.{sets}
use lib.ListN.{get_or, length}
use Rattle.looks.proofs.Needed.{perhaps_need, room_filled, room_kept, room_no, room_none, room_yes}
use Rattle.looks.proofs.Turns.{front_state, front_words_law, parts_of, perhaps}
use Rattle.looks.specs.Answer.{done}
use Rattle.looks.specs.Buffer.{State, fill, view_of}
use Rattle.looks.specs.Calls.{bump_if_by, need_by}
use Rattle.looks.specs.Front.{nth_of, white_of}
use Rattle.looks.specs.declared.rooms.Want.TheVariants.{Of}
use Rattle.looks.proofs.emits.bump_if.Goals as goal

pub returns-in_err-front_ready : goal.returns-in_err-front_ready
unfolding bump_if_by need_by
returns-in_err-front_ready c =
    let st = view_of c.args.state.now in
    let f = fill c.args.list.now 0 st in
    let p = err_from_is_err_and c.from_residual.result c.from_residual.ensures.1 in
    let h = sym c.front_ready.ensures.0 ∙ c.in_err-front_ready.was in
    parts_of c.args.out.now _ _ (room_no c.args.tested c.args.list.now (Of c.args.kind) (length c.args.out.now) st (perhaps c.args.list.now (done (white_of f + 1) 1 0 0) f (eqb (get_or (nth_of c.args.list.now 0 f) 0 0) c.args.kind)) (perhaps_need c.args.list.now (done (white_of f + 1) 1 0 0) f (eqb (get_or (nth_of c.args.list.now 0 f) 0 0) c.args.kind)) _ h) _ _ _ (c.front_ready.ensures.1 ∙ sym (room_kept c.args.tested c.args.list.now (Of c.args.kind) (length c.args.out.now) st _ h), p.1 ∙ ap Err p.2, refl)

pub returns-then-words-kind : goal.returns-then-words-kind
unfolding bump_if_by need_by
returns-then-words-kind c =
    let none = zeros c.default.result c.default.ensures.0 c.default.ensures.1.0 c.default.ensures.1.1.0 c.default.ensures.1.1.1 in
    let st = view_of c.args.state.now in
    let f = fill c.args.list.now 0 st in
    let h = sym c.front_ready.ensures.0 ∙ c.in_ok-front_ready.was in
    let g = c.front_ready.ensures.1 ∙ sym (room_filled c.args.tested c.args.list.now (Of c.args.kind) (length c.args.out.now) st h) in
    let emits = c.front_ready.ensures.2 c.in_ok-front_ready.was in
    let waits = ap (λ (x : State). x.nums.wait_len) g in
    let room = (room_none c.args.tested c.args.list.now (Of c.args.kind) (length c.args.out.now) st h).1 in
    let words = c.nth_words-words.ensures ∙ ap (nth_of c.args.list.now 0) g in
    let kind = ap (λ (ws : List ℕ). get_or ws 0 0) words in
    parts_of c.args.out.now _ _ (ap (perhaps c.args.list.now (done (white_of f + 1) 1 0 0) f) (sym (ne_eqb (get_or (nth_of c.args.list.now 0 f) 0 0) c.args.kind (λ z. c.if-words-kind.true (kind ∙ z)))) ∙ room_yes c.args.tested c.args.list.now (Of c.args.kind) (length c.args.out.now) st (perhaps c.args.list.now (done (white_of f + 1) 1 0 0) f (eqb (get_or (nth_of c.args.list.now 0 f) 0 0) c.args.kind)) (perhaps_need c.args.list.now (done (white_of f + 1) 1 0 0) f (eqb (get_or (nth_of c.args.list.now 0 f) 0 0) c.args.kind)) h) _ _ _ (g, ap Ok none, refl)

pub emit_front-requires : goal.emit_front-requires
unfolding need_by
emit_front-requires c =
    let st = view_of c.args.state.now in
    let f = fill c.args.list.now 0 st in
    let h = sym c.front_ready.ensures.0 ∙ c.in_ok-front_ready.was in
    let g = c.front_ready.ensures.1 ∙ sym (room_filled c.args.tested c.args.list.now (Of c.args.kind) (length c.args.out.now) st h) in
    let white = c.white_now-white.ensures ∙ ap white_of g in
    let emits = c.front_ready.ensures.2 c.in_ok-front_ready.was in
    let waits = ap (λ (x : State). x.nums.wait_len) g in
    let room = (room_none c.args.tested c.args.list.now (Of c.args.kind) (length c.args.out.now) st h).1 in
    let words = c.nth_words-words.ensures ∙ ap (nth_of c.args.list.now 0) g in
    let kind = ap (λ (ws : List ℕ). get_or ws 0 0) words in
    let size = rw (eq-eqb (get_or (nth_of c.args.list.now 0 f) 0 0) c.args.kind (sym kind ∙ c.if-words-kind.false)) at room in
    (omega (arith, emits.0), omega arith)

pub returns : goal.returns
unfolding bump_if_by need_by
returns c =
    let none = zeros c.default-2.result c.default-2.ensures.0 c.default-2.ensures.1.0 c.default-2.ensures.1.1.0 c.default-2.ensures.1.1.1 in
    let st = view_of c.args.state.now in
    let f = fill c.args.list.now 0 st in
    let h = sym c.front_ready.ensures.0 ∙ c.in_ok-front_ready.was in
    let g = c.front_ready.ensures.1 ∙ sym (room_filled c.args.tested c.args.list.now (Of c.args.kind) (length c.args.out.now) st h) in
    let white = c.white_now-white.ensures ∙ ap white_of g in
    let emits = c.front_ready.ensures.2 c.in_ok-front_ready.was in
    let waits = ap (λ (x : State). x.nums.wait_len) g in
    let room = (room_none c.args.tested c.args.list.now (Of c.args.kind) (length c.args.out.now) st h).1 in
    let words = c.nth_words-words.ensures ∙ ap (nth_of c.args.list.now 0) g in
    let kind = ap (λ (ws : List ℕ). get_or ws 0 0) words in
    parts_of c.args.out.now _ _ (ap (perhaps c.args.list.now (done (white_of f + 1) 1 0 0) f) (sym (eq-eqb (get_or (nth_of c.args.list.now 0 f) 0 0) c.args.kind (sym kind ∙ c.if-words-kind.false))) ∙ room_yes c.args.tested c.args.list.now (Of c.args.kind) (length c.args.out.now) st (perhaps c.args.list.now (done (white_of f + 1) 1 0 0) f (eqb (get_or (nth_of c.args.list.now 0 f) 0 0) c.args.kind)) (perhaps_need c.args.list.now (done (white_of f + 1) 1 0 0) f (eqb (get_or (nth_of c.args.list.now 0 f) 0 0) c.args.kind)) h) _ _ _ (c.emit_front.ensures.0 ∙ front_state c.args.list.now _ f g _ white _ refl, ap (λ (d : Done). Ok (record { count = c.wide.result + 1; value = 1; start = d.start; end = d.end })) none ∙ ap (λ (k : ℕ). done (k + 1) 1 0 0) (c.wide.ensures.0 ∙ white), c.emit_front.ensures.1 ∙ ap (sets c.args.out.now 0) (front_words_law c.args.list.now _ f g _ white _ words))
