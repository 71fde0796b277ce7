-- `sent_byte` meets its contract: a read has no data and sends zeros.
use Rattle.send_samples.proofs.samples.sent_byte.Goals as goal

pub bounds-data-i : goal.bounds-data-i
bounds-data-i c = c.requires c.if-read.false

pub returns-else-read : goal.returns-else-read
returns-else-read c = rw c.if-read.false
