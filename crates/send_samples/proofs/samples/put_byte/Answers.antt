-- `put_byte` meets its contract: its instruction, if it has its own, and its data bits one after the other.
use native.Mathlib.Omega.{arith}
use Rattle.base_bits.proofs.Putting.{put_both}
use Rattle.send_samples.specs.Run.{sent_byte}
use Rattle.send_samples.proofs.Parts.{byte_parts, length_parts}
use Rattle.send_samples.proofs.samples.put_byte.Goals as goal

pub put_own-n-requires : goal.put_own-n-requires
put_own-n-requires c =
    let a = c.args in
    record {
      address_bound = (c.requires.address_bound.0, omega (arith, length_parts a.run a.address (sent_byte a.run.read a.«data».now a.i), c.requires.i_in_bounds));
    }

pub sent_byte-requires : goal.sent_byte-requires
sent_byte-requires c = c.requires.address_bound.1

pub put_eight-requires : goal.put_eight-requires
put_eight-requires c =
    let a = c.args in
    let whole = length_parts a.run a.address (sent_byte a.run.read a.«data».now a.i) in
    record {
      at_in_bounds = omega (arith, c.put_own-n.ensures.next_place, c.put_own-n.auto.out, whole, c.requires.i_in_bounds);
    }

pub returns : goal.returns
returns c =
    let a = c.args in
    rw (byte_parts a.run a.address (sent_byte a.run.read a.«data».now a.i), ← c.sent_byte.ensures)
    (put_both c.put_own-n.ensures c.put_eight.ensures)
