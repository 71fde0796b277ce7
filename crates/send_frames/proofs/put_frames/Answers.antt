-- `put_frames` meets its contract: what is put, with the orders of the stretches still to come, is the whole.
use native.Mathlib.Omega.{arith}
use Rattle.send_frames.proofs.Answer.{passed}
use Rattle.send_frames.proofs.Walk.{good_list, frame_from, fits, framed_on, framed_all}
use Rattle.send_frames.proofs.put_frames.Goals as goal

pub loop-from-init : goal.loop-from-init
loop-from-init c =
    let p = passed _ c.args.addresses.now c.args.bytes.now _ c.requires in
    let g = good_list _ _ p.good in
    (g, frame_from _ _ _ _ g p.enough)

pub slice_bounds-put_frame-count : goal.slice_bounds-put_frame-count
slice_bounds-put_frame-count c = omega (arith, c.stretch_end-end.ensures)

pub slice_bounds-put_frame-start : goal.slice_bounds-put_frame-start
slice_bounds-put_frame-start c = omega (arith, c.stretch_end-end.ensures)

pub slice_bounds-put_frame-end : goal.slice_bounds-put_frame-end
slice_bounds-put_frame-end c =
    let f = fits c.loop-from.invariant.0 c.loop-from.invariant.1 c.loop-from-test.true _ c.stretch_end-end.ensures in
    omega (arith, f.inside, c.loop-from.invariant.0.pairs)

pub put_frame-n-requires : goal.put_frame-n-requires
put_frame-n-requires c =
    let f = fits c.loop-from.invariant.0 c.loop-from.invariant.1 c.loop-from-test.true _ c.stretch_end-end.ensures in
    record { in_bounds = (f.some, f.most, f.low); bytes_in_bounds = f.room }

pub loop-from-smaller : goal.loop-from-smaller
loop-from-smaller c =
    let f = fits c.loop-from.invariant.0 c.loop-from.invariant.1 c.loop-from-test.true _ c.stretch_end-end.ensures in
    omega (arith, c.stretch_end-end.ensures, f.inside)

pub loop-from-preserved : goal.loop-from-preserved
loop-from-preserved c =
    let at = c.loop-from in
    (at.invariant.0, framed_on at.invariant.0 at.invariant.1 c.loop-from-test.true _ c.stretch_end-end.ensures c.put_frame-n.ensures)

pub shape_of-out : goal.shape_of-out
shape_of-out c = c.loop-from.invariant.1.put.same

pub returns : goal.returns
returns c = framed_all c.loop-from.invariant.0 c.loop-from.invariant.1 c.loop-from-test.false
