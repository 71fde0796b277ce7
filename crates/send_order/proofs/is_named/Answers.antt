-- `is_named` meets its contract: its two tests are those of the definition.
use Rattle.send_order.proofs.is_named.Goals as goal

pub returns : goal.returns
returns c = rw c.most_settings.ensures
