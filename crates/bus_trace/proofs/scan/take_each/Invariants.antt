use Rattle.bus_trace.specs.Scan.{progress}
use Rattle.bus_trace.proofs.Onward.{Going}
use Rattle.bus_trace.proofs.scan.take_each.Given as goal

abbrev pub invariant-loop-at : goal.invariant-loop-at
invariant-loop-at l =
    Going l.samples l.piece.line l.piece.lsb_first l.piece.last (progress l.initial.level l.initial.bits l.initial.value l.initial.at) (progress l.level l.bits l.value l.at)
