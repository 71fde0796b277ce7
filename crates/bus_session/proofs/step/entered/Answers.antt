-- `entered` meets its contract: by the chip, and on an older one by the top.
use mathlib.Core.Path.{ap, sym, ◌∙◌}
use Rattle.base_chip.specs.declared.Chip.{Chip}
use borrow.Author.Tests.{le-leb, lt-leb}
use Rattle.base_bits.proofs.Cases.{yes, no}
use Rattle.bus_session.specs.Step.{entered}
use Rattle.bus_session.proofs.step.entered.Goals as goal

pub returns-then-start-top : goal.returns-then-start-top
unfolding entered
returns-then-start-top c =
    yes _ (le-leb _ _ c.if-start-top.true) c.in_data-then-start-top.ensures
    ∙ ap
    (λ (k : Chip). entered k c.args.value c.args.settings
    c.args.in_use)
    (sym c.in-Older.is)

pub returns-in-Newer : goal.returns-in-Newer
unfolding entered
returns-in-Newer c =
    c.in_data.ensures
    ∙ ap
    (λ (k : Chip). entered k c.args.value c.args.settings c.args.in_use)
    (sym c.in-Newer.is)

pub returns-else-start-top : goal.returns-else-start-top
unfolding entered
returns-else-start-top c =
    no _ (lt-leb _ _ c.if-start-top.false) c.passing.ensures
    ∙ ap
    (λ (k : Chip). entered k c.args.value c.args.settings
    c.args.in_use)
    (sym c.in-Older.is)
