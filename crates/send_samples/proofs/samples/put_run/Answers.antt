-- `put_run` meets its contract: the bytes that are put, with those still to go from the present address on, are the whole run.
use native.Mathlib.Omega.{arith}
use Rattle.base_bits.proofs.Putting.{putting_begun, next_fits, further, ended}
use Rattle.bus_settings.proofs.Laws.{next_lt}
use Rattle.send_samples.proofs.Parts.{next_byte, no_more_bytes}
use Rattle.send_samples.proofs.samples.put_run.Goals as goal

pub loop-i-init : goal.loop-i-init
loop-i-init c =
    let pre = c.requires in
    (pre.start_bound, putting_begun _ _ _ pre.data_in_bounds)

pub put_byte-n-requires : goal.put_byte-n-requires
put_byte-n-requires c =
    let h = c.loop-i-test.true in
    let turn = next_byte c.args.run c.loop-i.address c.args.count c.loop-i.i c.args.«data».now c.requires.data_len h in
    record {
      address_bound = (c.loop-i.invariant.0, λ t. omega (arith, h, rw t at c.requires.data_len));
      i_in_bounds = next_fits c.loop-i.invariant.1 turn;
    }

pub loop-i-preserved : goal.loop-i-preserved
loop-i-preserved c =
    let turn =
    next_byte c.args.run c.loop-i.address c.args.count c.loop-i.i c.args.«data».now c.requires.data_len c.loop-i-test.true in
    rw c.next_address-address.ensures
    (next_lt c.args.run.ascending c.loop-i.address, further c.loop-i.invariant.1 turn c.put_byte-n.ensures)

pub shape_of-out : goal.shape_of-out
shape_of-out c = c.loop-i.invariant.1.same

pub returns : goal.returns
returns c =
    ended c.loop-i.invariant.1 (no_more_bytes c.args.run c.loop-i.address c.args.count
    c.loop-i.i c.args.«data».now c.requires.data_len c.loop-i-test.false)
