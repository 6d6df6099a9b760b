use mathlib.Core.Path.{sym, ap, ◌∙◌}
use native.Mathlib.Omega.{arith}
use lib.Dec.{eqb, ltb}
use lib.ListN.{get_or, length}
use mathlib.Core.Bool.{not}
use borrow.Author.Tests.{not-true}
use Rattle.std.specs.Prelude.{Ok}
use Rattle.laws.proofs.Cases.{both_false, both_inv}
use Rattle.laws.specs.Bools.{both}
use Rattle.looks.proofs.Running.{while_other}
use Rattle.looks.proofs.Six.{some_sound}
use Rattle.looks.proofs.Turns.{parts, zeros}
use Rattle.looks.specs.Buffer.{view_of}
use Rattle.looks.specs.Front.{nth_of}
use Rattle.looks.specs.Sound.{some_by}
use Rattle.looks.proofs.whiles.bump_while.Goals as goal

pub returns-then-other : goal.returns-then-other
returns-then-other c =
    let none = zeros c.default.result c.default.ensures.0 c.default.ensures.1.0 c.default.ensures.1.1.0 c.default.ensures.1.1.1 in
    let st = view_of c.args.state.now in
    let o = both_inv (some_by c.args.tested c.args.list.now st.nums c.args.state.now.counts) (not (eqb (get_or (nth_of c.args.list.now 0 st) 0 0) c.args.kind)) (sym c.other.ensures ∙ c.if-other.true) in
    let s = some_sound c.args.tested c.args.list.now st.nums c.args.state.now.held c.args.state.now.counts c.args.state.now.waiting o.0 in
    let more = s.1 in
    let w = parts c.args.out.now _ _ (while_other c.args.tested c.args.list.now c.args.kind (length c.args.out.now) st s.0 (λ z. omega arith) (ap (both (ltb 0 st.nums.held_len)) (not-true _ o.1) ∙ both_false (ltb 0 st.nums.held_len))) in
    (w.0, ap Ok none ∙ w.1, w.2)
