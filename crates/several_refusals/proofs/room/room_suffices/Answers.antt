-- `room_suffices` meets its contract: where the bound of a record for three samples of each chip fits, the records do; else they are counted.
use Prim.Native.Nat.{◌*◌}
use mathlib.Core.Path.{sym}
use native.Mathlib.Omega.{arith}
use borrow.Author.Tests.{le-leb}
use Rattle.several_chips.specs.Samples.{samples_in}
use Rattle.several_chips.specs.Numbers.{count_from, several_record_size}
use Rattle.several_refusals.proofs.Counting.{few_records, bounded}
use Rattle.several_refusals.proofs.room.room_suffices.Goals as goal

pub returns-then-members-samples : goal.returns-then-members-samples
returns-then-members-samples c =
    sym
    (le-leb (several_record_size * count_from 0 c.args.members.now (samples_in c.args.samples.now)) c.args.room
    (omega (arith, bounded c.args.members.now c.args.samples.now c.requires, c.if-members-samples.true)))

pub overflow_mul-result : goal.overflow_mul-result
overflow_mul-result c =
    omega (arith, few_records c.args.members.now c.args.samples.now c.requires, c.count_all.ensures)
