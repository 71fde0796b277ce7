-- `start_of` meets its contract: the sum is taken before 1 is taken off.
use mathlib.Core.Path.{refl}
use Rattle.base_bits.proofs.Cases.{no}
use Rattle.send_frames.proofs.frame.start_of.Goals as goal

pub returns-else-ascending : goal.returns-else-ascending
returns-else-ascending c = no _ c.if-ascending.false refl
