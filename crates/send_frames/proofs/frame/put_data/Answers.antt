-- `put_data` meets its contract: what is put so far, with the data that is left, is the whole.
use mathlib.Core.Path.{refl}
use Prim.Native.Nat.{◌+◌, ◌≤◌, ◌<◌}
use native.Mathlib.Omega.{arith}
use lib.ListN.{length, drop_of_length-le}
use Rattle.base_bits.proofs.Putting.{putting_begun, next_byte, next_fits, further, ended}
use Rattle.send_frames.specs.Frames.{data_of}
use Rattle.send_frames.proofs.Data.{length_data}
use Rattle.send_frames.proofs.frame.put_data.Goals as goal

pub loop-i-init : goal.loop-i-init
loop-i-init c = (omega arith, putting_begun _ _ _ (omega (arith, length_data c.args.ascending c.args.bytes.now, c.requires)))

pub bounds-out-n : goal.bounds-out-n
bounds-out-n c =
    let left : c.loop-i.i < length (data_of c.args.ascending c.args.bytes.now) =
    omega (arith, length_data c.args.ascending c.args.bytes.now, c.loop-i-test.true) in
    let fits : c.loop-i.n + 1 ≤ length c.loop-i.out =
    next_fits c.loop-i.invariant.1 (next_byte _ _ left) in
    omega (arith, fits)

pub overflow_add-n : goal.overflow_add-n
overflow_add-n c =
    let left : c.loop-i.i < length (data_of c.args.ascending c.args.bytes.now) =
    omega (arith, length_data c.args.ascending c.args.bytes.now, c.loop-i-test.true) in
    let fits : c.loop-i.n + 1 ≤ length c.loop-i.out =
    next_fits c.loop-i.invariant.1 (next_byte _ _ left) in
    omega (arith, fits, c.loop-i.invariant.1.same)

pub loop-i-preserved : goal.loop-i-preserved
loop-i-preserved c =
    let left : c.loop-i.i < length (data_of c.args.ascending c.args.bytes.now) =
    omega (arith, length_data c.args.ascending c.args.bytes.now, c.loop-i-test.true) in
    let at = c.loop-i in
    (omega arith, further at.invariant.1 (next_byte _ _ left) (rw c.byte_at.ensures (record { next_place = refl; buffer = refl })))

pub shape_of-out : goal.shape_of-out
shape_of-out c = c.loop-i.invariant.1.same

pub returns : goal.returns
returns c =
    ended c.loop-i.invariant.1
    (drop_of_length-le _ {i = c.loop-i.i} (omega (arith, length_data c.args.ascending c.args.bytes.now, c.loop-i-test.false)))
