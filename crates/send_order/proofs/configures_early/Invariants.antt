use Rattle.send_order.proofs.Early.{Looking}
use Rattle.send_order.proofs.configures_early.Given as goal

abbrev pub invariant-loop : goal.invariant-loop
invariant-loop l = Looking l.ascending l.start l.«data» l.address l.counter
