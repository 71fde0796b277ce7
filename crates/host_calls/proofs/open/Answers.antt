-- `open` meets its contract: it is `open_on`, and the session's bytes.
use Rattle.host_calls.proofs.Laws.{opened}
use Rattle.host_calls.proofs.open.Goals as goal

pub returns : goal.returns
returns c = rw c.number_of.ensures (opened _ _ _ _ c.bytes_of.ensures c.open_on-opening.ensures)
