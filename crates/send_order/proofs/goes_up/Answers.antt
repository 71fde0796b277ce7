-- `goes_up` meets its contract: which bit of the settings number decides is by the chip.
use mathlib.Core.Path.{sym, ◌∙◌}
use Rattle.base_bits.proofs.Cases.{yes, no}
use Rattle.send_order.proofs.goes_up.Goals as goal

pub returns-then-is_newer : goal.returns-then-is_newer
returns-then-is_newer c = yes _ (sym c.is_newer.ensures ∙ c.if-is_newer.true) c.has.ensures

pub returns-else-is_newer : goal.returns-else-is_newer
returns-else-is_newer c = no _ (sym c.is_newer.ensures ∙ c.if-is_newer.false) c.has-else-is_newer.ensures
