use Rattle.std.specs.Prelude.{Option, true, false}
use lib.ListN.{length}
use lib.Seq.{sets, slice}
use Rattle.marks.specs.Marks.{close_mark, open_mark}
use Rattle.outline.specs.Covered.{covers}
use Rattle.outline.specs.Outline.{paint}
use Rattle.outline.specs.declared.Inside.{Inside}
use Prim.Native.Nat.{ℕ, ◌+◌}
use mathlib.Core.Path.{refl, sym, ap, ◌∙◌}
use native.Mathlib.Omega.{arith}
use Rattle.marks.proofs.Marks.{open_few}
use Rattle.numbers.specs.Kinds.{number_of}
use Rattle.outline.proofs.Shading.{shade_fin, shade_halt, shade_more, shade_past, shade_room, shaded_first}
use Rattle.outline.proofs.outline_tokens.Goals as goal
use Rattle.outline.proofs.outline_tokens.Goals.{then-has_inside, else-has_inside}

pub loop-token-init : goal.loop-token-init
loop-token-init c = shaded_first _ _ _ c.requires

pub fill-requires : goal.fill-requires
fill-requires c = (omega arith, omega (arith, c.loop-token.invariant))

pub shape_of-out-in_default : goal.shape_of-out-in_default
shape_of-out-in_default c = c.fill.auto.out ∙ c.loop-token.invariant.same

pub returns-in_default : goal.returns-in_default
returns-in_default c = shade_halt c.args.reading c.args.s.now c.args.out.now c.loop-token.out c.loop-token.at c.loop-token.invariant c.next-answer.result c.next-answer.ensures c.unwrap_err.result c.unwrap_err.ensures _ c.fill.ensures

pub fill-requires-then-end-at : goal.fill-requires-then-end-at
fill-requires-then-end-at c = (omega arith, omega (arith, c.loop-token.invariant))

pub shape_of-out-then-end-at : goal.shape_of-out-then-end-at
shape_of-out-then-end-at c = c.fill-then-end-at.auto.out ∙ c.loop-token.invariant.same

pub returns-then-end-at : goal.returns-then-end-at
returns-then-end-at c = shade_fin c.args.reading c.args.s.now c.args.out.now c.loop-token.out c.loop-token.at c.loop-token.invariant c.next-answer.result c.next-answer.ensures c.in-Ok.token c.in-Ok.is c.if-end-at.true _ c.fill-then-end-at.ensures

pub overflow_add-inside : goal.overflow_add-inside
overflow_add-inside c = omega (arith, c.opens.ensures, open_few c.in-Ok.token.kind (number_of c.in-Ok.token.kind) refl, c.loop-token.invariant, c.well_formed)

pub fill-requires-in-loop-token : goal.fill-requires-in-loop-token
fill-requires-in-loop-token c = ((shade_room c.args.reading c.args.s.now c.args.out.now c.loop-token.out c.loop-token.at c.loop-token.invariant c.next-answer.result c.next-answer.ensures c.in-Ok.token c.in-Ok.is c.if-end-at.false), omega (arith, (shade_room c.args.reading c.args.s.now c.args.out.now c.loop-token.out c.loop-token.at c.loop-token.invariant c.next-answer.result c.next-answer.ensures c.in-Ok.token c.in-Ok.is c.if-end-at.false), c.loop-token.invariant))

pub loop-token-smaller : goal.loop-token-smaller
loop-token-smaller c = omega (arith, (shade_past c.args.reading c.args.s.now c.args.out.now c.loop-token.out c.loop-token.at c.loop-token.invariant c.next-answer.result c.next-answer.ensures c.in-Ok.token c.in-Ok.is c.if-end-at.false), (shade_room c.args.reading c.args.s.now c.args.out.now c.loop-token.out c.loop-token.at c.loop-token.invariant c.next-answer.result c.next-answer.ensures c.in-Ok.token c.in-Ok.is c.if-end-at.false))

pub loop-token-preserved : goal.loop-token-preserved
loop-token-preserved c =
    let k = c.in-Ok.token.kind in
    elim c.if-has_inside.branch [
      | then-has_inside w ↦
          shade_more c.args.reading c.args.s.now c.args.out.now c.loop-token.out c.loop-token.at c.loop-token.invariant c.next-answer.result c.next-answer.ensures c.in-Ok.token c.in-Ok.is c.if-end-at.false true (c.loop-token.at + w.opens.result) w.closes.result (sym w.if-has_inside.true ∙ c.has_inside.ensures)
          (ap (λ (z : ℕ). c.loop-token.at + z) w.opens.ensures) w.closes.ensures _ c.fill-in-loop-token.auto.out
          (c.fill-in-loop-token.ensures ∙ ap (λ (x : Option Inside). sets c.loop-token.out c.loop-token.at (paint (covers x c.in-Ok.token.span.end) (slice c.loop-token.at c.in-Ok.token.span.end c.args.s.now) c.loop-token.at)) w.inside-is)
      | else-has_inside w ↦
          shade_more c.args.reading c.args.s.now c.args.out.now c.loop-token.out c.loop-token.at c.loop-token.invariant c.next-answer.result c.next-answer.ensures c.in-Ok.token c.in-Ok.is c.if-end-at.false false (c.loop-token.at + length (open_mark k)) (length (close_mark k)) (sym w.if-has_inside.false ∙ c.has_inside.ensures)
          refl refl _ c.fill-in-loop-token.auto.out
          (c.fill-in-loop-token.ensures ∙ ap (λ (x : Option Inside). sets c.loop-token.out c.loop-token.at (paint (covers x c.in-Ok.token.span.end) (slice c.loop-token.at c.in-Ok.token.span.end c.args.s.now) c.loop-token.at)) w.inside-is)
    ]
