use mathlib.Core.Path.{◌≡◌}
use mathlib.Core.Bool.{◌&&◌}
use lib.ListN.{drop}
use Rattle.several_chips.specs.Numbers.{apart_from, ranges_of}
use Rattle.several_refusals.specs.Ranges.{range_of}
use Rattle.several_refusals.proofs.memory.apart_from.Given as goal

abbrev pub invariant-loop-member : goal.invariant-loop-member
invariant-loop-member l =
    (l.good && apart_from (range_of l.range) (ranges_of (drop l.member-index l.members))) ≡ apart_from (range_of l.range) (ranges_of l.members)
