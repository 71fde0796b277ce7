-- `check_map` meets its contract: the form is tested first, and then the rules, as the number's chain asks.
use mathlib.Core.Path.{refl, sym, ◌∙◌}
use Rattle.base_bits.proofs.Cases.{yes, no}
use Rattle.map_test.specs.MapTest.{map_number}
use Rattle.map_test.proofs.Laws.{formed}
use Rattle.map_test.proofs.check_map.Goals as goal

pub invariant_of-formed : goal.invariant_of-formed
invariant_of-formed c = record { formed = formed _ (sym c.form_good.ensures ∙ c.if-not-form_good.false) }

pub returns-then-not-form_good : goal.returns-then-not-form_good
unfolding map_number
returns-then-not-form_good c = no _ (sym c.form_good.ensures ∙ c.if-not-form_good.true) refl

pub returns-then-not-rules_good : goal.returns-then-not-rules_good
unfolding map_number
returns-then-not-rules_good c =
    yes _ (sym c.form_good.ensures ∙ c.if-not-form_good.false) (no _ (sym c.rules_good.ensures ∙ c.if-not-rules_good.true) refl)

pub returns : goal.returns
unfolding map_number
returns c =
    yes _ (sym c.form_good.ensures ∙ c.if-not-form_good.false) (yes _ (sym c.rules_good.ensures ∙ c.if-not-rules_good.false) refl)
