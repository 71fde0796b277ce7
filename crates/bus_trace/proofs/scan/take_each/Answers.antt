-- `take_each` meets its contract: each sample changes the level, or gives a bit, or ends the scan.
use Rattle.bus_trace.proofs.Advance.{even_level}
use Rattle.bus_trace.proofs.Onward.{going_idle, going_bit}
use Rattle.bus_trace.proofs.scan.take_each.Goals as goal
use Rattle.bus_trace.proofs.scan.take_each.Goals.{then-rises+else-bits-piece, else-rises}

pub loop-at-preserved : goal.loop-at-preserved
loop-at-preserved c =
    let inv = c.loop-at.invariant in
    let even = even_level _ c.if-now-eq1.false in
    elim c.if-rises.branch [
      | then-rises+else-bits-piece w ↦
          rw (w.bits-is, w.value-is, w.shift_in-value.ensures, w.bit_at.ensures)
          (going_bit inv c.loop-at-test.true even w.if-rises.true w.if-bits-piece.false)
      | else-rises w ↦ rw (w.bits-is, w.value-is) (going_idle inv c.loop-at-test.true even w.if-rises.false)
    ]
