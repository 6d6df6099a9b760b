use Rattle.looks.proofs.Advances.{filing_end, filing_more}
use Rattle.looks.specs.Buffer.{nums_of}
use Rattle.looks.proofs.emits.put_array.Goals as goal

pub loop-i-preserved : goal.loop-i-preserved
loop-i-preserved c = filing_more c.args.list.now c.args.n (nums_of c.args.state.now.nums) c.args.state.now.held c.args.out.now c.loop-i.out c.loop-i.i c.loop-i.invariant c.loop-i-test.true _ _ c.nth_words-words.ensures c.put_words.ensures

pub returns : goal.returns
returns c = filing_end c.args.list.now c.args.n (nums_of c.args.state.now.nums) c.args.state.now.held c.args.out.now c.loop-i.out c.loop-i.i c.loop-i.invariant c.loop-i-test.false
