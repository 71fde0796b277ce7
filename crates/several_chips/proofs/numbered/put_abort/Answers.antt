-- `put_abort` meets its contract: its own record goes after the number.
use native.Mathlib.Omega.{arith}
use lib.ListN.{length-set}
use Rattle.read_records.specs.Records.{abort_record}
use Rattle.several_chips.proofs.Putting.{Put, put_after}
use Rattle.several_chips.proofs.numbered.put_abort.Goals as goal

pub put_abort-requires : goal.put_abort-requires
put_abort-requires c = simp length-set (omega arith)

pub returns : goal.returns
returns c =
    let put : let a = c.args in Put a.records.now a.at a.chip (abort_record a.address a.bits a.in_data)
    c.put_abort.new.records =
    put_after _ _ _ _ c.put_abort.ensures in
    put.whole
