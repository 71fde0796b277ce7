use Prim.Native.Nat.{◌+◌}
use mathlib.Core.Path.{◌≡◌}
use lib.ListN.{drop}
use Rattle.several_chips.specs.Samples.{samples_in}
use Rattle.several_chips.specs.Numbers.{count_from}
use Rattle.several_refusals.proofs.room.count_all.Given as goal

abbrev pub invariant-loop-i : goal.invariant-loop-i
invariant-loop-i l = l.count + count_from l.i (drop l.i l.members) (samples_in l.samples) ≡ count_from 0 l.members (samples_in l.samples)
