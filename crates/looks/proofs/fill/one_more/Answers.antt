use Prim.Native.Nat.{ℕ, ◌+◌}
use mathlib.Core.Path.{refl, sym, ap, ap₂, ◌∙◌}
use native.Mathlib.Omega.{arith}
use borrow.Author.Tests.{le-leb, lt-leb}
use Rattle.looks.proofs.Gathers.{fits_one}
use Rattle.looks.proofs.Numbers.{dark_bound}
use Rattle.looks.specs.Buffer.{gather_at, nums_of, view_of, white_to}
use Rattle.looks.specs.Numbered.{dark}
use Rattle.looks.proofs.fill.one_more.Goals as goal

pub white_at-white-requires : goal.white_at-white-requires
white_at-white-requires c = rw c.next_dark-to.ensures (dark_bound c.args.list.now (nums_of c.args.state.now.nums).next c.requires.0).0

pub returns-then-wide-gt256 : goal.returns-then-wide-gt256
returns-then-wide-gt256 c =
    let white = c.white_at-white.ensures ∙ ap (λ (p : ℕ). white_to p (nums_of c.args.state.now.nums)) c.next_dark-to.ensures in
    (sym (fits_one c.args.list.now (nums_of c.args.state.now.nums) ∙ lt-leb ((nums_of c.args.state.now.nums).wait_len + white_to (dark c.args.list.now (nums_of c.args.state.now.nums).next) (nums_of c.args.state.now.nums)) 256 (omega (arith, c.wide.ensures, c.wide-2.ensures, c.if-wide-gt256.true))), refl)

pub gather_at-requires : goal.gather_at-requires
gather_at-requires c = (rw c.next_dark-to.ensures (dark_bound c.args.list.now (nums_of c.args.state.now.nums).next c.requires.0).0, c.requires.1, omega (arith, c.white_at-white.ensures, c.wide.ensures, c.wide-2.ensures, c.if-wide-gt256.false))

pub returns : goal.returns
returns c =
    let white = c.white_at-white.ensures ∙ ap (λ (p : ℕ). white_to p (nums_of c.args.state.now.nums)) c.next_dark-to.ensures in
    (sym (fits_one c.args.list.now (nums_of c.args.state.now.nums) ∙ le-leb ((nums_of c.args.state.now.nums).wait_len + white_to (dark c.args.list.now (nums_of c.args.state.now.nums).next) (nums_of c.args.state.now.nums)) 256 (omega (arith, c.wide.ensures, c.wide-2.ensures, c.if-wide-gt256.false))), c.gather_at.ensures ∙ ap₂ (λ (p k : ℕ). gather_at p k (view_of c.args.state.now)) c.next_dark-to.ensures c.count_of.ensures)
