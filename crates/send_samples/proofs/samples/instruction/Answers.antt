-- `instruction` meets its contract: by the direction.
use Rattle.send_samples.proofs.samples.instruction.Goals as goal

pub returns-then-read : goal.returns-then-read
returns-then-read c = rw c.if-read.true
