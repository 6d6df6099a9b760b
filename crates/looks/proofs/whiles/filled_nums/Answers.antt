use Rattle.looks.proofs.Numbers.{dark_bound}
use Rattle.looks.proofs.whiles.filled_nums.Goals as goal

pub gather_to-requires : goal.gather_to-requires
gather_to-requires c = (rw c.next_dark.ensures (dark_bound c.args.list.now c.args.nums.next c.requires.0).0, c.requires.1)
