-- `take_byte` meets its contract: a byte that is read has one law, and one that is written another.
use native.Mathlib.Omega.{arith}
use mathlib.Core.Path.{refl}
use Rattle.read_records.proofs.Taking.{room_for, has_bit, took_read, took_write}
use Rattle.read_records.proofs.take_byte.Goals as goal

pub put_read-requires : goal.put_read-requires
put_read-requires c = room_for c.requires.0 refl

pub returns-then-read : goal.returns-then-read
returns-then-read c =
    took_read c.if-read.true c.due_byte-due.ensures
    c.put_read.ensures

pub touch_written-requires : goal.touch_written-requires
touch_written-requires c =
    has_bit c.requires.0
    c.write-written.ensures

pub put_write-requires : goal.put_write-requires
put_write-requires c =
    room_for c.requires.0 refl

pub overflow_add-result-2 : goal.overflow_add-result-2
overflow_add-result-2 c =
    omega (arith, room_for c.requires.0 refl, c.well_formed)

pub returns : goal.returns
returns c =
    took_write c.if-read.false c.write-written.ensures c.touch_written.ensures
    c.put_write.ensures c.requires.1 c.armed_on-armed.ensures
