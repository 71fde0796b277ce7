-- `mask` meets its contract: that part of the entry is what `part` gives.
use Rattle.map_format.proofs.Laws.{entry_parts}
use Rattle.map_format.proofs.in_use.RegisterMap.mask.Goals as goal

pub returns : goal.returns
returns c = rw entry_parts c.part.ensures
