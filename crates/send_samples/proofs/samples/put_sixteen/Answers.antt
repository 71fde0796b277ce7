-- `put_sixteen` meets its contract: two bytes one after the other, the lower first where the lowest bit is.
use native.Mathlib.Omega.{arith}
use Rattle.base_bits.proofs.Putting.{put_both}
use Rattle.send_samples.proofs.Bits.{two_bytes, after_bits}
use Rattle.send_samples.proofs.samples.put_sixteen.Goals as goal

pub put_eight-requires : goal.put_eight-requires
put_eight-requires c = record {
  at_in_bounds = omega (
    arith,
    after_bits c.args.lsb_first 8 c.first_of.result c.put_eight-n.ensures,
    c.put_eight-n.auto.out,
    c.requires.at_in_bounds,
  );
}

pub returns : goal.returns
returns c =
    let a = c.args in
    rw (two_bytes a.lsb_first a.x, ← c.first_of.ensures, ← c.first_of-2.ensures)
    (put_both c.put_eight-n.ensures c.put_eight.ensures)
