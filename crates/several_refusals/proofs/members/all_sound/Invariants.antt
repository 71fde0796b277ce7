use mathlib.Core.Path.{◌≡◌}
use mathlib.Core.Bool.{◌&&◌}
use lib.ListN.{take, drop}
use Rattle.several_chips.specs.Numbers.{all_sound}
use Rattle.several_chips.specs.Promises.{AllBytes}
use Rattle.several_refusals.proofs.members.all_sound.Given as goal

abbrev pub invariant-loop-member : goal.invariant-loop-member
invariant-loop-member l = record {
  rest : (l.good && all_sound (drop l.member-index l.members)) ≡ all_sound l.members;
  bytes : AllBytes (take l.member-index l.members);
}
