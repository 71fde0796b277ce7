-- `apart_from` meets its contract: the chips passed, with the test of those that are left, are the whole test.
use Prim.Native.Nat.{◌+◌}
use mathlib.Core.Path.{refl}
use mathlib.Core.List.{List}
use lib.ListN.{get_or, drop}
use Rattle.several_chips.specs.declared.Member.{Member}
use Rattle.several_chips.specs.Numbers.{apart_from, ranges_of}
use Rattle.several_refusals.specs.Ranges.{range_of}
use Rattle.several_refusals.proofs.Passing.{one_more, all_passed}
use Rattle.several_refusals.proofs.Ranges.{no_member, apart_more}
use Rattle.several_refusals.proofs.memory.apart_from.Goals as goal

pub loop-member-preserved : goal.loop-member-preserved
loop-member-preserved c =
    let ws = c.args.members.now in
    let at = c.loop-member in
    let i = at.member-index in
    let s = c.apart-active in
    let t = c.apart-buffer in
    let more =
    apart_more (get_or ws i no_member) (drop (i + 1) ws) (range_of c.active_of.result) (range_of c.buffer_of.result) c.active_of.ensures c.buffer_of.ensures
    (range_of c.args.range) s.result t.result s.ensures t.ensures in
    one_more (λ (us : List Member). apart_from (range_of c.args.range) (ranges_of us)) ws i at.good no_member _ more c.loop-member-test.true at.invariant

pub returns : goal.returns
unfolding apart_from ranges_of
returns c =
    let at = c.loop-member in
    all_passed (λ (us : List Member). apart_from (range_of c.args.range) (ranges_of us)) c.args.members.now at.member-index at.good refl
    c.loop-member-test.false at.invariant
