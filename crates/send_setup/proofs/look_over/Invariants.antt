use Rattle.send_setup.proofs.Loops.{Looking}
use Rattle.send_setup.proofs.look_over.Given as goal

abbrev pub invariant-loop-at : goal.invariant-loop-at
invariant-loop-at l = Looking l.settings l.list l.at l.left l.bytes

abbrev pub decreases-loop-at : goal.decreases-loop-at
decreases-loop-at l = l.left
