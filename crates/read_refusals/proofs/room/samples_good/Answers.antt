-- `samples_good` meets its contract: the test of the bits so far, with that of the samples that are left, is the whole test.
use Rattle.read_refusals.proofs.Scan.{good_more, good_all}
use Rattle.read_refusals.proofs.room.samples_good.Goals as goal

pub loop-x-preserved : goal.loop-x-preserved
loop-x-preserved c = good_more c.args.samples.now c.loop-x.together c.loop-x.x-index c.loop-x.invariant c.loop-x-test.true

pub returns : goal.returns
returns c = good_all c.args.samples.now c.loop-x.together c.loop-x.x-index c.loop-x.invariant c.loop-x-test.false
