-- `only_levels` meets its contract: the same levels, joined.
use Rattle.several_chips.proofs.step.only_levels.Goals as goal

pub returns : goal.returns
returns c = rw (c.bit_at-high.ensures, c.bit_at.ensures)
