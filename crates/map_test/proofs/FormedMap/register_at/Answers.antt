-- `register_at` meets its contract: inside a map of good form the three bytes of an entry are there.
use Rattle.map_format.proofs.Laws.{entry_bytes_lem}
use Rattle.map_test.proofs.FormedMap.register_at.Goals as goal

pub returns : goal.returns
returns c = rw c.head.ensures (entry_bytes_lem _ _ _ c.requires)
