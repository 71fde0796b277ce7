-- `put_record` meets its contract: the bytes are copied to their place as a whole.
use native.Mathlib.Omega.{arith}
use mathlib.Core.Path.{◌≡◌}
use Prim.Native.Nat.{◌+◌, ◌-◌, ◌/◌, ◌%◌}
use lib.Seq.{sets-eq, drop-drop}
use Rattle.std.proofs.Common.{append_assoc}
use Rattle.read_records.specs.Records.{kind_number, record_bytes}
use Rattle.read_records.proofs.put_record.Goals as goal

pub returns : goal.returns
returns c =
    let a = c.args in
    let size : a.at + 7 - a.at ≡ 7 = omega arith in
    let high : a.address / 256 % 256 ≡ a.address / 256 = omega arith in
    let bytes = record_bytes (kind_number a.kind) a.address a.third a.fourth a.fifth a.moved in
    rw (c.copy_from_slice.ensures.after, size, drop-drop, sets-eq bytes a.records.now a.at c.requires, c.from-kind.ensures, c.to_be_bytes.ensures, high, append_assoc)
