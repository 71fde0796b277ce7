-- `put_rest` meets its contract: what is put so far, with the bytes of the map that are left, is the whole.
use mathlib.Core.Path.{refl}
use Prim.Native.Nat.{◌+◌, ◌≤◌}
use native.Mathlib.Omega.{arith}
use lib.ListN.{length, drop_of_length-le}
use Rattle.base_bits.proofs.Putting.{putting_begun, next_byte, next_fits, further, ended}
use Rattle.map_convert.proofs.put_rest.Goals as goal

pub loop-i-init : goal.loop-i-init
loop-i-init c = putting_begun _ _ _ c.requires.1

pub bounds-out-n : goal.bounds-out-n
bounds-out-n c =
    let fits : c.loop-i.n + 1 ≤ length c.loop-i.out =
    next_fits c.loop-i.invariant (next_byte _ _ c.loop-i-test.true) in
    omega (arith, fits)

pub overflow_add-n : goal.overflow_add-n
overflow_add-n c =
    let fits : c.loop-i.n + 1 ≤ length c.loop-i.out =
    next_fits c.loop-i.invariant (next_byte _ _ c.loop-i-test.true) in
    omega (arith, fits, c.loop-i.invariant.same)

pub loop-i-preserved : goal.loop-i-preserved
loop-i-preserved c = further c.loop-i.invariant (next_byte _ _ c.loop-i-test.true) (record { next_place = refl; buffer = refl })

pub shape_of-out : goal.shape_of-out
shape_of-out c = c.loop-i.invariant.same

pub returns : goal.returns
returns c = ended c.loop-i.invariant (drop_of_length-le _ {i = c.loop-i.i} c.loop-i-test.false)
