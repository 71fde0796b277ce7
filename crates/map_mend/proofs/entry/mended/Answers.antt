-- `mended` meets its contract: the three steps are those of the definition, in their order.
use Rattle.map_mend.specs.Entry.{mended_at}
use Rattle.map_mend.proofs.entry.mended.Goals as goal

pub returns : goal.returns
unfolding mended_at
returns c = rw (c.with_fixed_bytes.ensures, c.clear.ensures, c.mended_kind.ensures)
