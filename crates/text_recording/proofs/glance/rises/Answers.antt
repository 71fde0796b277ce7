-- `rises` meets its contract: the same four levels, joined.
use Rattle.text_recording.specs.Glance.{rises_at}
use Rattle.text_recording.proofs.glance.rises.Goals as goal

pub returns : goal.returns
unfolding rises_at
returns c = rw (c.bit_at.ensures, c.bit_at-2.ensures, c.bit_at-3.ensures, c.bit_at-4.ensures)
