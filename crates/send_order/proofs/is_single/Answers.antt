-- `is_single` meets its contract: the chip and the bit of the settings number.
use Rattle.send_order.proofs.is_single.Goals as goal

pub returns : goal.returns
returns c = rw (c.is_newer.ensures, c.has.ensures)
