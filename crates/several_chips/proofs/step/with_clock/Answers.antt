-- `with_clock` meets its contract: a bool as a byte is its bit.
use Rattle.bus_session_bytes.proofs.Laws.{flag_byte}
use Rattle.several_chips.proofs.step.with_clock.Goals as goal

pub returns : goal.returns
returns c = rw (flag_byte c.args.sclk)
