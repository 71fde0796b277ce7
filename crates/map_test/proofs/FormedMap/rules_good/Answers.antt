-- `rules_good` meets its contract: by the chip; an older part has no further rule.
use mathlib.Core.Path.{ap, sym, ◌∙◌}
use mathlib.Core.Bool.{and-true}
use Rattle.base_bits.specs.Tests.{every}
use Rattle.base_chip.specs.declared.Chip.{Chip}
use Rattle.map_test.specs.MapTest.{rules_good}
use Rattle.map_test.proofs.FormedMap.rules_good.Goals as goal

pub returns-in-Older : goal.returns-in-Older
unfolding every
returns-in-Older c =
    c.older_good.ensures ∙ sym (and-true _) ∙ ap (λ (k : Chip). rules_good k c.args.self.bytes.now) (sym c.in-Older.is)
