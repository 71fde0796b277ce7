-- `good_from` meets its contract: what is left of the list decides.
use Rattle.send_setup.proofs.Walk.{Ends, ends, no_end, tested_on, tested_all}
use Rattle.send_setup.proofs.good_from.Goals as goal

pub returns-in_default : goal.returns-in_default
returns-in_default c = no_end c.loop-at.invariant c.loop-at-test.true c.in_default.ensures

pub loop-at-preserved : goal.loop-at-preserved
loop-at-preserved c =
    let there : Ends c.args.list.now c.loop-at.at c.loop-at.left c.in-Some.end = ends _ _ _ _ c.in-Some.ensures in
    rw there.place (tested_on c.loop-at.invariant there.some c.loop-at-test.true there.whole)

pub returns : goal.returns
returns c = tested_all c.loop-at.invariant c.loop-at-test.false
