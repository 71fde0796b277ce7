use lib.ListN.{drop}
use Rattle.send_setup.specs.Form.{list_good}
use Rattle.send_setup.proofs.Walk.{Testing}
use Rattle.send_setup.proofs.good_from.Given as goal

abbrev pub invariant-loop-at : goal.invariant-loop-at
invariant-loop-at l = Testing l.list l.at l.left (list_good l.most (drop l.from l.list))

abbrev pub decreases-loop-at : goal.decreases-loop-at
decreases-loop-at l = l.left
