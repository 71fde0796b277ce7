use lib.ListN.{drop}
use Rattle.base_bits.proofs.Putting.{Putting}
use Rattle.map_convert.proofs.put_rest.Given as goal

abbrev pub invariant-loop-i : goal.invariant-loop-i
invariant-loop-i l = Putting l.initial.out l.at (drop l.from l.map) (drop l.i l.map) l.n l.out
