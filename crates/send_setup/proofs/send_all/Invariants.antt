use Prim.Native.Nat.{◌-◌}
use lib.ListN.{length}
use Rattle.send_setup.proofs.Loops.{Sends}
use Rattle.send_setup.proofs.send_all.Given as goal

abbrev pub invariant-loop-at : goal.invariant-loop-at
invariant-loop-at l = Sends l.settings l.list l.initial.out l.at l.n l.out

abbrev pub decreases-loop-at : goal.decreases-loop-at
decreases-loop-at l = length l.list - l.at
