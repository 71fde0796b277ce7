use Prim.Native.Nat.{◌-◌}
use lib.ListN.{length}
use Rattle.send_frames.proofs.Walk.{Good, Sizing}
use Rattle.send_frames.proofs.frames_size.Given as goal

abbrev pub invariant-loop-from : goal.invariant-loop-from
invariant-loop-from l = Good l.addresses l.bytes × Sizing l.addresses l.bytes l.size l.from

abbrev pub decreases-loop-from : goal.decreases-loop-from
decreases-loop-from l = length l.addresses - l.from
