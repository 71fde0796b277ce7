-- `stopped` meets its contract: 14 where what is left is not good.
use mathlib.Core.Path.{refl, sym, ◌∙◌}
use Rattle.base_bits.proofs.Cases.{yes, no}
use Rattle.send_setup.proofs.stopped.Goals as goal

pub returns-then-good_from : goal.returns-then-good_from
returns-then-good_from c = yes _ (sym c.good_from.ensures ∙ c.if-good_from.true) refl

pub returns-else-good_from : goal.returns-else-good_from
returns-else-good_from c = no _ (sym c.good_from.ensures ∙ c.if-good_from.false) refl
