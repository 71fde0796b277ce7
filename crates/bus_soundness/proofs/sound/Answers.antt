-- `sound` meets its contract: both parts.
use Rattle.bus_session.specs.State.{sound_session}
use Rattle.bus_soundness.proofs.sound.Goals as goal

pub returns : goal.returns
unfolding sound_session
returns c = rw (c.sound_port.ensures, c.may_arm.ensures)
