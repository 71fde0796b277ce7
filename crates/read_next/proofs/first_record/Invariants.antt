use Prim.Native.Nat.{◌-◌}
use lib.ListN.{length}
use Rattle.read_next.proofs.Search.{Searching}
use Rattle.read_next.proofs.first_record.Given as goal

abbrev pub invariant-loop-taken : goal.invariant-loop-taken
invariant-loop-taken l = Searching l.chip l.samples l.initial.s l.s l.taken

abbrev pub decreases-loop-taken : goal.decreases-loop-taken
decreases-loop-taken l = length l.samples - l.taken
