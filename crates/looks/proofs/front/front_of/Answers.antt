use Prim.Native.Nat.{ℕ, ◌+◌}
use mathlib.Core.Path.{◌≡◌, ap, ◌∙◌}
use native.Mathlib.Omega.{arith}
use lib.ListN.{length}
use Rattle.looks.proofs.Fronts.{front_held, front_last, front_more}
use Rattle.looks.proofs.Numbers.{dark_bound}
use Rattle.looks.specs.Buffer.{state_of}
use Rattle.looks.proofs.front.front_of.Goals as goal

pub returns-then-nums-ne0 : goal.returns-then-nums-ne0
returns-then-nums-ne0 c =
    let held_size : length c.args.state.now.held ≡ 8 = omega arith in
    let counts_size : length c.args.state.now.counts ≡ 8 = omega arith in
    ((λ w. front_held c.args.list.now (state_of c.args.nums c.args.state.now.held c.args.state.now.counts w) _ _ _ c.if-nums-ne0.true c.slot-first.ensures c.wide.ensures.0 c.token_at.ensures), omega (arith, c.wide.ensures), held_size, counts_size)

pub white_at-requires : goal.white_at-requires
white_at-requires c = rw c.next_dark-at.ensures (dark_bound c.args.list.now c.args.nums.next c.requires.0).0

pub returns-then-at-count_of : goal.returns-then-at-count_of
returns-then-at-count_of c =
    let held_size : length c.args.state.now.held ≡ 8 = omega arith in
    let counts_size : length c.args.state.now.counts ≡ 8 = omega arith in
    ((λ w. front_more c.args.list.now (state_of c.args.nums c.args.state.now.held c.args.state.now.counts w) c.if-nums-ne0.false c.next_dark-at.result c.next_dark-at.ensures held_size counts_size (omega (arith, c.if-at-count_of.true, c.count_of.ensures)) _ _ (c.wide-white.ensures.0 ∙ c.white_at.ensures) c.token_at-then-at-count_of.ensures), omega (arith, c.wide-white.ensures), held_size, counts_size)

pub returns : goal.returns
returns c =
    let held_size : length c.args.state.now.held ≡ 8 = omega arith in
    let counts_size : length c.args.state.now.counts ≡ 8 = omega arith in
    ((λ w. front_last c.args.list.now (state_of c.args.nums c.args.state.now.held c.args.state.now.counts w) c.if-nums-ne0.false c.next_dark-at.result c.next_dark-at.ensures (omega (arith, c.if-at-count_of.false, c.count_of.ensures)) _ _ (ap (λ (k : ℕ). c.args.nums.wait_len + k) (c.wide-white.ensures.0 ∙ c.white_at.ensures)) c.eof_words.ensures), omega (arith, c.wide-white.ensures, c.requires.1), held_size, counts_size)
