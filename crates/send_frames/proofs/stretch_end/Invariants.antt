use Prim.Native.Nat.{◌<◌}
use Rattle.send_frames.proofs.Rows.{Row}
use Rattle.send_frames.proofs.stretch_end.Given as goal

abbrev pub invariant-loop-end : goal.invariant-loop-end
invariant-loop-end l = (l.last < 65536) × Row l.addresses l.from l.last l.end
