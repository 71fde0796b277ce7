use mathlib.Core.List.{[]}
use Rattle.map_test.proofs.Entries.{Tested}
use Rattle.map_test.proofs.FormedMap.others_good.Given as goal

abbrev pub invariant-loop-address : goal.invariant-loop-address
invariant-loop-address l = Tested [] l.self.bytes.now l.first l.address-end l.good l.address
