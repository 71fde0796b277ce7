use Rattle.map_mend.proofs.Listed.{ListCounting}
use Rattle.map_mend.proofs.list_length.Given as goal

abbrev pub invariant-loop-address : goal.invariant-loop-address
invariant-loop-address l = ListCounting l.map l.n l.length l.address
