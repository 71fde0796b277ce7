use Prim.Native.Nat.{◌-◌}
use lib.ListN.{length}
use Rattle.bus_trace.proofs.Onward.{Going}
use Rattle.bus_trace.proofs.scan.take_words.Given as goal

abbrev pub invariant-loop-p : goal.invariant-loop-p
invariant-loop-p l = Going l.samples l.piece.line l.piece.lsb_first l.piece.last l.initial.p l.p

abbrev pub decreases-loop-p : goal.decreases-loop-p
decreases-loop-p l = length l.samples - l.p.at
