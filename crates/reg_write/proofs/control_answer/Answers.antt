-- `control_answer` meets its contract: the reading under the settings after the write.
use Rattle.reg_write.proofs.control_answer.Goals as goal

pub returns : goal.returns
returns c = rw (c.reading.ensures, c.after-after.ensures)
