-- `put_own` meets its contract: with single instruction the sixteen bits, and else nothing.
use mathlib.Core.Path.{◌≡◌, refl}
use native.Mathlib.Omega.{arith}
use lib.ListN.{length}
use Rattle.send_order.specs.Samples.{bits_of, instruction_of, clocked}
use Rattle.send_order.proofs.Laws.{length_bits_lem, length_clocked}
use Rattle.send_samples.proofs.samples.put_own.Goals as goal

pub put_sixteen-requires : goal.put_sixteen-requires
put_sixteen-requires c =
    let a = c.args in
    let room = rw c.if-run.true at c.requires.address_bound.1 in
    let bits : length (clocked (bits_of a.run.lsb_first 16 (instruction_of a.run.read a.address))) ≡ 32 = simp (length_clocked, length_bits_lem) in
    record { at_in_bounds = omega arith }

pub returns-then-run : goal.returns-then-run
returns-then-run c =
    rw (c.if-run.true, ← c.instruction.ensures) c.put_sixteen.ensures

pub returns : goal.returns
unfolding clocked
returns c = rw c.if-run.false (record { next_place = omega arith; buffer = refl })
