-- `run_of` meets its contract: each setting is a bit of the settings number.
use Rattle.send_samples.proofs.run_of.Goals as goal

pub returns : goal.returns
returns c = rw (c.bit_at-3.ensures, c.bit_at-2.ensures, c.bit_at.ensures)
