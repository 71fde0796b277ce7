-- `reset` meets its contract: the defaults, twice.
use Rattle.reg_banks.specs.Banks.{default_banks}
use Rattle.reg_banks.proofs.banks.reset.Goals as goal

pub returns : goal.returns
unfolding default_banks
returns c = rw (c.put_defaults.ensures, c.put_defaults-2.ensures)
