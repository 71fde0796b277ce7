use Prim.Native.Nat.{ℕ}
use Rattle.bus_trace.specs.Scan.{progress, ProgressBounds, RisesAhead, LanesTaken}
use Rattle.bus_trace.proofs.Lanes.{taken_bits}
use Rattle.bus_trace.proofs.scan.bits_at.Given as goal

abbrev pub invariant-loop-rising : goal.invariant-loop-rising
invariant-loop-rising l =
    (k : ℕ) → ProgressBounds l.samples l.piece.last (progress k l.initial.bits l.initial.value l.at) → RisesAhead l.samples (progress k l.initial.bits l.initial.value l.at) l.rises
    → LanesTaken l.samples l.piece.line l.piece.lsb_first l.piece.last (progress k l.initial.bits l.initial.value l.at) (taken_bits l.bits l.value l.rising)

abbrev pub decreases-loop-rising : goal.decreases-loop-rising
decreases-loop-rising l = l.rising
