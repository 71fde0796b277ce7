-- `sample_count` meets its contract: by the mode.
use Rattle.send_order.proofs.sample_count.Goals as goal

pub returns-then-single_instruction : goal.returns-then-single_instruction
returns-then-single_instruction c = rw c.if-single_instruction.true

pub returns-else-single_instruction : goal.returns-else-single_instruction
returns-else-single_instruction c = rw c.if-single_instruction.false
