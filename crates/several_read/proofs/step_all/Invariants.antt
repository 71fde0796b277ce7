-- What the loop of `step_all` keeps, and what falls: the turns left.
use Rattle.several_read.proofs.Reached.{Reached, turns_left}
use Rattle.several_read.proofs.step_all.Given as goal

abbrev pub invariant-loop-turn : goal.invariant-loop-turn
invariant-loop-turn l = Reached l.fn.map l.fn.members l.fn.memory l.fn.samples l.fn.records l.turn l.members l.memory l.records

abbrev pub decreases-loop-turn : goal.decreases-loop-turn
decreases-loop-turn l = turns_left l.end l.turn
