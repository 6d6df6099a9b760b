use mathlib.Core.Path.{sym, ◌∙◌}
use native.Mathlib.Omega.{arith}
use Rattle.looks.proofs.Answers.{first_no, first_yes, ready_for, sound_bounded}
use Rattle.looks.proofs.Six.{none_sound}
use Rattle.looks.specs.Buffer.{nums_of, view_of}
use Rattle.looks.proofs.show.peek_ready.Goals as goal

pub one_more-requires : goal.one_more-requires
one_more-requires c =
    let st = view_of c.args.state.now in
    let s = none_sound c.args.tested c.args.list.now (nums_of c.args.state.now.nums) c.args.state.now.held c.args.state.now.counts c.args.state.now.waiting (sym c.none.ensures ∙ c.if-none.true) in
    let b = sound_bounded c.args.tested c.args.list.now st s.0 in
    let z = s.1 in
    let r = ready_for c.args.list.now st.nums 1 1 b (omega arith) (omega arith) in
    (r.0, r.1, r.3)

pub returns-then-one_more : goal.returns-then-one_more
returns-then-one_more c =
    let st = view_of c.args.state.now in
    let s = none_sound c.args.tested c.args.list.now (nums_of c.args.state.now.nums) c.args.state.now.held c.args.state.now.counts c.args.state.now.waiting (sym c.none.ensures ∙ c.if-none.true) in
    first_yes c.args.tested c.args.list.now st s.0 s.1 _ _ c.one_more.ensures.0 c.one_more.ensures.1 c.if-one_more.true

pub returns-then-none : goal.returns-then-none
returns-then-none c =
    let st = view_of c.args.state.now in
    let s = none_sound c.args.tested c.args.list.now (nums_of c.args.state.now.nums) c.args.state.now.held c.args.state.now.counts c.args.state.now.waiting (sym c.none.ensures ∙ c.if-none.true) in
    first_no c.args.tested c.args.list.now st s.0 s.1 _ _ c.one_more.ensures.0 c.one_more.ensures.1 c.if-one_more.false
