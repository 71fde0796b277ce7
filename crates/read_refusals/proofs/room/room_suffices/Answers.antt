-- `room_suffices` meets its contract: where the bound of a record for three samples fits, the records do; else they are counted.
use Prim.Native.Nat.{◌*◌}
use mathlib.Core.Path.{sym}
use native.Mathlib.Omega.{arith}
use borrow.Author.Tests.{le-leb}
use Rattle.base_sizes.specs.Sizes.{record_size}
use Rattle.read_run.specs.Reading.{record_count}
use Rattle.read_run.proofs.Bound.{records_bound}
use Rattle.read_refusals.proofs.room.room_suffices.Goals as goal

pub returns-then-samples-room : goal.returns-then-samples-room
returns-then-samples-room c =
    let a = c.args in
    sym
    (le-leb (record_size * record_count a.chip a.session.port a.samples.now) a.room
    (omega (arith, records_bound a.chip a.session.port a.samples.now, c.if-samples-room.true)))

pub overflow_mul-result : goal.overflow_mul-result
overflow_mul-result c =
    let a = c.args in
    omega (arith, records_bound a.chip a.session.port a.samples.now, c.count_records.ensures)

pub returns : goal.returns
returns c = rw c.count_records.ensures
