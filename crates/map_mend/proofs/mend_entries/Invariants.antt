use Rattle.map_mend.proofs.Halfway.{Halfway}
use Rattle.map_mend.proofs.mend_entries.Given as goal

abbrev pub invariant-loop-address : goal.invariant-loop-address
invariant-loop-address l = Halfway l.initial.map l.initial.list l.map l.list l.length l.address
