-- `session_of` meets its contract: each field is its byte, or its two.
use Rattle.bus_session_bytes.specs.Layout.{session_of}
use Rattle.bus_session_bytes.proofs.session_of.Goals as goal

pub returns : goal.returns
unfolding session_of
returns c =
    rw (c.from_be_bytes-2.ensures, c.from_be_bytes.ensures, c.phase_of.ensures)
