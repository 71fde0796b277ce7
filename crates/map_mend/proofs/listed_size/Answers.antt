-- `listed_size` meets its contract: an entry is listed where mending alters it, and has five bytes then.
use mathlib.Core.Path.{sym, ap, ◌∙◌}
use lib.ListN.{length}
use Rattle.map_mend.proofs.Listed.{listed, not_listed}
use Rattle.map_mend.proofs.listed_size.Goals as goal

pub returns-then-is_altered : goal.returns-then-is_altered
returns-then-is_altered c = sym (ap length (listed _ _ (sym c.is_altered.ensures ∙ c.if-is_altered.true)))

pub returns-else-is_altered : goal.returns-else-is_altered
returns-else-is_altered c = sym (ap length (not_listed _ _ (sym c.is_altered.ensures ∙ c.if-is_altered.false)))
