use Prim.Native.Nat.{◌-◌}
use lib.ListN.{length}
use Rattle.send_frames.proofs.Walk.{Good, Framing}
use Rattle.send_frames.proofs.put_frames.Given as goal

abbrev pub invariant-loop-from : goal.invariant-loop-from
invariant-loop-from l = Good l.addresses l.bytes × Framing l.ascending l.addresses l.bytes l.initial.out l.from l.n l.out

abbrev pub decreases-loop-from : goal.decreases-loop-from
decreases-loop-from l = length l.addresses - l.from
