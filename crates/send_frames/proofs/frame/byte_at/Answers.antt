-- `byte_at` meets its contract: what stands at a place of the bytes turned round stands as far from their end.
use mathlib.Core.Path.{sym}
use Rattle.send_frames.proofs.Data.{reverse_at}
use Rattle.send_frames.proofs.frame.byte_at.Goals as goal

pub returns-then-ascending : goal.returns-then-ascending
returns-then-ascending c = rw c.if-ascending.true

pub returns-else-ascending : goal.returns-else-ascending
returns-else-ascending c = rw c.if-ascending.false (sym (reverse_at c.args.bytes.now c.args.i c.requires))
