use lib.ListN.{length}
use Rattle.map_test.proofs.Entries.{Tested}
use Rattle.map_test.proofs.FormedMap.places_good.Given as goal

abbrev pub invariant-loop-address : goal.invariant-loop-address
invariant-loop-address l = Tested l.kinds l.self.bytes.now 0 (length l.kinds) l.good l.address
