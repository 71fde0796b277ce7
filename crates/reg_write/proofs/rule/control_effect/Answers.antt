-- `control_effect` meets its contract: each return has gone by the tests of the definition.
use mathlib.Core.Path.{refl, sym, ◌∙◌}
use Rattle.base_bits.proofs.Cases.{yes, no}
use Rattle.reg_write.specs.Effect.{control_effect}
use Rattle.reg_write.proofs.rule.control_effect.Goals as goal

pub returns-then-is_newer-address : goal.returns-then-is_newer-address
unfolding control_effect
returns-then-is_newer-address c = yes _ (rw c.is_newer.ensures at c.if-is_newer-address.true) c.configuration_effect.ensures

pub returns-then-transfers_at : goal.returns-then-transfers_at
unfolding control_effect
returns-then-transfers_at c =
    no _ (rw c.is_newer.ensures at c.if-is_newer-address.false) (yes _ (sym c.transfers_at.ensures ∙ c.if-transfers_at.true) refl)

pub returns : goal.returns
unfolding control_effect
returns c =
    no _ (rw c.is_newer.ensures at c.if-is_newer-address.false) (no _ (sym c.transfers_at.ensures ∙ c.if-transfers_at.false) refl)
