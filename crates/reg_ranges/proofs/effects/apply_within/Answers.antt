-- `apply_within` meets its contract: for each effect, what the memory becomes is the banks after it, put in their ranges.
use native.Mathlib.Omega.{arith}
use Prim.Native.Nat.{◌<◌}
use mathlib.Core.Path.{sym}
use Rattle.reg_write.specs.Write.{applied}
use Rattle.reg_ranges.proofs.Laws.{placed_same, placed_active_byte, placed_buffer_byte}
use Rattle.reg_ranges.proofs.effects.apply_within.Goals as goal

pub bounds-memory-ranges : goal.bounds-memory-ranges
bounds-memory-ranges c =
    let below : c.in-Byte.address < c.args.ranges.n =
    c.requires.1 _ _ _ _ c.in-Byte.is in
    omega (arith, below, c.requires.0.buffer_fits)

pub bounds-memory-ranges-else-buffered : goal.bounds-memory-ranges-else-buffered
bounds-memory-ranges-else-buffered c =
    let below : c.in-Byte.address < c.args.ranges.n =
    c.requires.1 _ _ _ _ c.in-Byte.is in
    omega (arith, below, c.requires.0.active_fits)

pub returns-in-Nothing : goal.returns-in-Nothing
unfolding applied
returns-in-Nothing c = rw c.in-Nothing.is (sym (placed_same c.requires.0))

pub returns-then-buffered : goal.returns-then-buffered
unfolding applied
returns-then-buffered c =
    let below : c.in-Byte.address < c.args.ranges.n =
    c.requires.1 _ _ _ _ c.in-Byte.is in
    rw (c.in-Byte.is, c.if-buffered.true)
    (sym (placed_buffer_byte c.requires.0 _ _ below))

pub returns-else-buffered : goal.returns-else-buffered
unfolding applied
returns-else-buffered c =
    let below : c.in-Byte.address < c.args.ranges.n =
    c.requires.1 _ _ _ _ c.in-Byte.is in
    rw (c.in-Byte.is, c.if-buffered.false)
    (sym (placed_active_byte c.requires.0 _ _ below))

pub returns-in-Control : goal.returns-in-Control
unfolding applied
returns-in-Control c = rw c.in-Control.is (sym (placed_same c.requires.0))

pub returns-in-Transfer : goal.returns-in-Transfer
unfolding applied
returns-in-Transfer c = rw c.in-Transfer.is c.transfer_within.ensures

pub returns-in-Reset : goal.returns-in-Reset
unfolding applied
returns-in-Reset c = rw c.in-Reset.is c.reset_within.ensures

pub returns-in-Ignored : goal.returns-in-Ignored
unfolding applied
returns-in-Ignored c = rw c.in-Ignored.is (sym (placed_same c.requires.0))
