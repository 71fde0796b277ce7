-- `frames_size` meets its contract: the size so far, with that of the stretches still to come, is the whole.
use Prim.Native.Nat.{◌-◌, ◌≤◌}
use mathlib.Core.Path.{◌≡◌}
use native.Mathlib.Omega.{arith}
use lib.ListN.{length, take, drop}
use Rattle.send_frames.proofs.Walk.{good_list, size_from, length_part, size_on, size_all}
use Rattle.send_frames.proofs.frames_size.Goals as goal

pub loop-from-init : goal.loop-from-init
loop-from-init c = (good_list _ _ c.requires, size_from _ _)

pub slice_bounds-size-count : goal.slice_bounds-size-count
slice_bounds-size-count c = omega (arith, c.stretch_end-end.ensures)

pub slice_bounds-size-start : goal.slice_bounds-size-start
slice_bounds-size-start c = omega (arith, c.stretch_end-end.ensures)

pub slice_bounds-size-end : goal.slice_bounds-size-end
slice_bounds-size-end c =
    let at = c.loop-from in
    let found : (length (take (c.stretch_end-end.result - at.from) (drop at.from c.args.bytes.now)) ≡ c.stretch_end-end.result - at.from)
    × (c.stretch_end-end.result ≤ length c.args.addresses.now) =
    length_part c.args.addresses.now c.args.bytes.now at.invariant.0.pairs _ c.loop-from-test.true _ c.stretch_end-end.ensures in
    omega (arith, found, at.invariant.0.pairs)

pub overflow_add-size : goal.overflow_add-size
overflow_add-size c =
    let at = c.loop-from in
    let found : (length (take (c.stretch_end-end.result - at.from) (drop at.from c.args.bytes.now)) ≡ c.stretch_end-end.result - at.from)
    × (c.stretch_end-end.result ≤ length c.args.addresses.now) =
    length_part c.args.addresses.now c.args.bytes.now at.invariant.0.pairs _ c.loop-from-test.true _ c.stretch_end-end.ensures in
    omega (arith, found, at.invariant.0.most)

pub overflow_add-size-in-loop-from : goal.overflow_add-size-in-loop-from
overflow_add-size-in-loop-from c =
    let at = c.loop-from in
    let found : (length (take (c.stretch_end-end.result - at.from) (drop at.from c.args.bytes.now)) ≡ c.stretch_end-end.result - at.from)
    × (c.stretch_end-end.result ≤ length c.args.addresses.now) =
    length_part c.args.addresses.now c.args.bytes.now at.invariant.0.pairs _ c.loop-from-test.true _ c.stretch_end-end.ensures in
    omega (arith, found, at.invariant.0.most, at.invariant.1.most, at.invariant.1.within)

pub loop-from-smaller : goal.loop-from-smaller
loop-from-smaller c =
    let at = c.loop-from in
    let found : (length (take (c.stretch_end-end.result - at.from) (drop at.from c.args.bytes.now)) ≡ c.stretch_end-end.result - at.from)
    × (c.stretch_end-end.result ≤ length c.args.addresses.now) =
    length_part c.args.addresses.now c.args.bytes.now at.invariant.0.pairs _ c.loop-from-test.true _ c.stretch_end-end.ensures in
    omega (arith, c.stretch_end-end.ensures, found)

pub loop-from-preserved : goal.loop-from-preserved
loop-from-preserved c =
    let at = c.loop-from in
    (at.invariant.0, size_on at.invariant.0 at.invariant.1 c.loop-from-test.true _ c.stretch_end-end.ensures)

pub returns : goal.returns
returns c = size_all c.loop-from.invariant.0 c.loop-from.invariant.1 c.loop-from-test.false
