-- `put_read` meets its contract: its own record goes after the number, and a store inside that record is a store to it before it is put.
use native.Mathlib.Omega.{arith}
use lib.Dec.{lit<}
use lib.ListN.{length-set}
use Rattle.read_records.specs.Records.{read_record}
use Rattle.several_chips.proofs.Putting.{Put, put_after}
use Rattle.several_chips.proofs.numbered.put_read.Goals as goal

pub put_read-requires : goal.put_read-requires
put_read-requires c = simp length-set (omega arith)

pub bounds-records-at-then-contended : goal.bounds-records-at-then-contended
bounds-records-at-then-contended c =
    let put : let a = c.args in Put a.records.now a.at a.chip (read_record a.address a.due a.line)
    c.put_read.new.records =
    put_after _ _ _ _ c.put_read.ensures in
    omega (arith, put.same_size)

pub returns-then-contended : goal.returns-then-contended
returns-then-contended c =
    let put : let a = c.args in Put a.records.now a.at a.chip (read_record a.address a.due a.line)
    c.put_read.new.records =
    put_after _ _ _ _ c.put_read.ensures in
    rw c.if-contended.true (put.stored 2 (lit< tt))

pub returns-else-contended : goal.returns-else-contended
returns-else-contended c =
    let put : let a = c.args in Put a.records.now a.at a.chip (read_record a.address a.due a.line)
    c.put_read.new.records =
    put_after _ _ _ _ c.put_read.ensures in
    rw c.if-contended.false put.whole
