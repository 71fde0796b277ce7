-- `put_eight` meets its contract: the two nibbles of the byte as it travels, one after the other.
use Prim.Native.Nat.{◌/◌}
use native.Mathlib.Omega.{arith}
use Rattle.base_bits.proofs.Putting.{put_both}
use Rattle.send_samples.proofs.Bits.{two_nibbles}
use Rattle.send_samples.proofs.Nibble.{length_nibble}
use Rattle.send_samples.proofs.samples.put_eight.Goals as goal

pub put_nibble-requires : goal.put_nibble-requires
put_nibble-requires c = (
  omega arith,
  omega (
    arith,
    c.put_nibble-n.ensures.next_place,
    length_nibble (c.in_order-sent.result / 16),
    c.put_nibble-n.auto.out,
    c.requires,
  ),
)

pub returns : goal.returns
returns c =
    let a = c.args in
    rw (two_nibbles a.lsb_first a.x c.in_order-sent.result c.in_order-sent.ensures)
    (put_both c.put_nibble-n.ensures c.put_nibble.ensures)
