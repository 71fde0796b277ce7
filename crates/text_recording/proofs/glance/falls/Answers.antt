-- `falls` meets its contract: the same two levels, joined.
use Rattle.text_recording.specs.Glance.{falls_at}
use Rattle.text_recording.proofs.glance.falls.Goals as goal

pub returns : goal.returns
unfolding falls_at
returns c = rw (c.bit_at.ensures, c.bit_at-2.ensures)
