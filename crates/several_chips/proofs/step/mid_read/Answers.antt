-- `mid_read` meets its contract: the same three tests, joined.
use Rattle.several_chips.proofs.step.mid_read.Goals as goal

pub returns : goal.returns
returns c = rw c.is_data.ensures
