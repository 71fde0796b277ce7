-- `asks_slow` meets its contract: the tests of the definition, with the address of two bytes.
use Rattle.read_records.specs.Slow.{asks_slow}
use Rattle.read_records.proofs.slow.asks_slow.Goals as goal

pub returns : goal.returns
unfolding asks_slow
returns c = rw (c.bit_at.ensures, c.from_be_bytes-address.ensures)
