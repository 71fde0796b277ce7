-- `take_within` meets its contract: one law for each case of the event.
use native.Mathlib.Omega.{arith}
use mathlib.Core.Path.{ap}
use Rattle.read_records.specs.Records.{records_in}
use Rattle.several_chips.proofs.Within.{room_for, took_nothing, took_read, took_write, took_abort, took_end}
use Rattle.several_chips.proofs.take.take_within.Goals as goal

pub put_read-requires : goal.put_read-requires
put_read-requires c =
    room_for c.requires
    (ap records_in c.in-Whole.is)

pub returns-then-read : goal.returns-then-read
returns-then-read c =
    took_read c.requires
    c.in-Whole.is c.if-read.true
    c.due_within-due.ensures c.put_read.ensures

pub put_write-requires : goal.put_write-requires
put_write-requires c =
    room_for c.requires
    (ap records_in c.in-Whole.is)

pub overflow_add-result-in-Whole : goal.overflow_add-result-in-Whole
overflow_add-result-in-Whole c =
    omega (
      arith,
      room_for c.requires
          (ap records_in
          c.in-Whole.is),
      c.well_formed,
    )

pub put_abort-requires : goal.put_abort-requires
put_abort-requires c = room_for c.requires (ap records_in c.in-Aborted.is)

pub returns-in-Nothing : goal.returns-in-Nothing
returns-in-Nothing c = took_nothing c.requires c.in-Nothing.is

pub returns-else-read : goal.returns-else-read
returns-else-read c =
    took_write c.requires
    c.in-Whole.is
    c.if-read.false
    c.write_within-written.ensures c.put_write.ensures
    c.moves_at_rise-moves.ensures c.armed_on-armed.ensures

pub returns-in-Aborted : goal.returns-in-Aborted
returns-in-Aborted c =
    took_abort c.requires
    c.in-Aborted.is
    c.put_abort.ensures c.take_end_within.ensures

pub returns-in-Ended : goal.returns-in-Ended
returns-in-Ended c =
    took_end c.requires c.in-Ended.is
    c.take_end_within-in-Ended.ensures
