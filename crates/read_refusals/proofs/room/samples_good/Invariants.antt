use mathlib.Core.Path.{◌≡◌}
use mathlib.Core.Bool.{◌&&◌}
use lib.Dec.{leb}
use lib.ListN.{drop}
use Rattle.read_refusals.specs.Numbers.{samples_good}
use Rattle.read_refusals.proofs.room.samples_good.Given as goal

abbrev pub invariant-loop-x : goal.invariant-loop-x
invariant-loop-x l = (leb l.together 15 && samples_good (drop l.x-index l.samples)) ≡ samples_good l.samples
