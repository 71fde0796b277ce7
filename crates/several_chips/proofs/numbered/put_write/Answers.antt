-- `put_write` meets its contract: its own record goes after the number.
use native.Mathlib.Omega.{arith}
use lib.ListN.{length-set}
use Rattle.read_records.specs.Records.{write_record}
use Rattle.several_chips.proofs.Putting.{Put, put_after}
use Rattle.several_chips.proofs.numbered.put_write.Goals as goal

pub put_write-requires : goal.put_write-requires
put_write-requires c = simp length-set (omega arith)

pub returns : goal.returns
returns c =
    let put : let a = c.args in Put a.records.now a.at a.chip (write_record a.address a.byte a.written)
    c.put_write.new.records =
    put_after _ _ _ _ c.put_write.ensures in
    put.whole
