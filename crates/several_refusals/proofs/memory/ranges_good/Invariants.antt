use mathlib.Core.Path.{◌≡◌}
use mathlib.Core.Bool.{◌&&◌}
use lib.ListN.{drop}
use Rattle.several_chips.specs.Numbers.{ranges_good, ranges_of}
use Rattle.several_refusals.proofs.memory.ranges_good.Given as goal

abbrev pub invariant-loop-i : goal.invariant-loop-i
invariant-loop-i l = (l.good && ranges_good l.size (ranges_of (drop l.i l.members))) ≡ ranges_good l.size (ranges_of l.members)
