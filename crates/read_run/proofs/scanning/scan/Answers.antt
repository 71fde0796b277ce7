-- `scan` meets its contract: it is the scan from the progress that the port stands for.
use Rattle.read_run.proofs.scanning.scan.Goals as goal

pub next_stop-requires : goal.next_stop-requires
next_stop-requires c = rw c.level_of.ensures c.requires

pub returns : goal.returns
returns c = rw c.level_of.ensures at c.next_stop.ensures
