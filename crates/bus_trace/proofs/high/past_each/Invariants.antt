use Rattle.bus_trace.proofs.Resting.{Resting}
use Rattle.bus_trace.proofs.high.past_each.Given as goal

abbrev pub invariant-loop-at : goal.invariant-loop-at
invariant-loop-at l = Resting l.samples l.initial.level l.from l.level l.at
