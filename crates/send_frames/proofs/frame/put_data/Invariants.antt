use Prim.Native.Nat.{◌≤◌}
use lib.ListN.{length, drop}
use Rattle.base_bits.proofs.Putting.{Putting}
use Rattle.send_frames.specs.Frames.{data_of}
use Rattle.send_frames.proofs.frame.put_data.Given as goal

abbrev pub invariant-loop-i : goal.invariant-loop-i
invariant-loop-i l = (l.i ≤ length l.bytes) × Putting l.initial.out l.at (data_of l.ascending l.bytes) (drop l.i (data_of l.ascending l.bytes)) l.n l.out
