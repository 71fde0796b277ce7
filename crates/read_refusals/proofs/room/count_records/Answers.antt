-- `count_records` meets its contract: a pass that puts no record counts the size of a record for each.
use Rattle.read_refusals.proofs.Scan.{ready_to_count}
use Rattle.read_refusals.proofs.room.count_records.Goals as goal

pub run_samples-passed-requires : goal.run_samples-passed-requires
run_samples-passed-requires c =
    let p = c.requires in
    ready_to_count _ _ _ _ _ p.0 p.1
