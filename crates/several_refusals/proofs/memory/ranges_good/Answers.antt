-- `ranges_good` meets its contract: the chips passed, with the test of those that are left, are the whole test.
use Prim.Native.Nat.{◌+◌}
use mathlib.Core.Path.{refl}
use mathlib.Core.List.{List}
use native.Mathlib.Omega.{arith}
use lib.ListN.{length, get_or, drop}
use Rattle.std.proofs.lemmas.Slice.{between_to_end}
use Rattle.several_chips.specs.declared.Member.{Member}
use Rattle.several_chips.specs.Numbers.{ranges_good, ranges_of}
use Rattle.several_refusals.specs.Ranges.{range_of}
use Rattle.several_refusals.proofs.Passing.{one_more, all_passed}
use Rattle.several_refusals.proofs.Ranges.{no_member, ranges_more}
use Rattle.several_refusals.proofs.memory.ranges_good.Goals as goal

pub loop-i-preserved : goal.loop-i-preserved
loop-i-preserved c =
    let ws = c.args.members.now in
    let at = c.loop-i in
    let i = at.i in
    let more =
    ranges_more (get_or ws i no_member) (drop (i + 1) ws) (range_of c.active_of-active.result) (range_of c.buffer_of-buffer.result) c.active_of-active.ensures
    c.buffer_of-buffer.ensures c.args.size _ (between_to_end ws (i + 1) (length ws) (omega arith)) _ _ _ _ _ c.ends_by.ensures c.ends_by-in-loop-i.ensures
    c.apart-own.ensures c.apart_from.ensures c.apart_from-in-loop-i.ensures in
    one_more (λ (us : List Member). ranges_good c.args.size (ranges_of us)) ws i at.good no_member _ more c.loop-i-test.true at.invariant

pub returns : goal.returns
unfolding ranges_good ranges_of
returns c =
    let at = c.loop-i in
    all_passed (λ (us : List Member). ranges_good c.args.size (ranges_of us)) c.args.members.now at.i at.good refl c.loop-i-test.false at.invariant
