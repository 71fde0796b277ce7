-- `past_each` meets its contract: each sample passed has CSB high, and leaves its level.
use native.Mathlib.Omega.{arith}
use Rattle.bus_trace.proofs.Resting.{resting_begun, resting_one}
use Rattle.bus_trace.proofs.high.past_each.Goals as goal

pub loop-at-init : goal.loop-at-init
loop-at-init c = resting_begun _ _ c.requires.1

pub loop-at-preserved : goal.loop-at-preserved
loop-at-preserved c = let l = c.if-falls.false in resting_one c.loop-at.invariant c.loop-at-test.true (omega (arith, l))
