-- `answer` meets its contract: one equation of the definition for each effect.
use Rattle.reg_write.specs.Write.{written_by}
use Rattle.reg_write.proofs.Laws.{byte_number}
use Rattle.reg_write.proofs.answer.Goals as goal

pub returns-in-Nothing : goal.returns-in-Nothing
unfolding written_by
returns-in-Nothing c = rw c.in-Nothing.is c.untaken.ensures

pub returns-in-Byte : goal.returns-in-Byte
returns-in-Byte c = rw c.in-Byte.is (byte_number _ _ _ _ _ _ _ _ c.one_of.ensures)

pub returns-in-Control : goal.returns-in-Control
unfolding written_by
returns-in-Control c = rw c.in-Control.is c.control_answer.ensures

pub returns-in-Transfer : goal.returns-in-Transfer
unfolding written_by
returns-in-Transfer c = rw c.in-Transfer.is c.control_answer-in-Transfer.ensures

pub returns-in-Reset : goal.returns-in-Reset
unfolding written_by
returns-in-Reset c = rw c.in-Reset.is c.control_answer-in-Reset.ensures

pub returns-in-Ignored : goal.returns-in-Ignored
unfolding written_by
returns-in-Ignored c = rw c.in-Ignored.is (rw (← c.reading.ensures) c.untaken-in-Ignored.ensures)
