-- `with_session` meets its contract: the bytes of the session, and a bool as a byte is its bit.
use Rattle.bus_session_bytes.proofs.Laws.{flag_byte}
use Rattle.several_chips.proofs.step.with_session.Goals as goal

pub returns : goal.returns
returns c = rw (c.bytes_of-member.ensures, flag_byte c.args.contended)
