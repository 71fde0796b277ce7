-- `effect_within` meets its contract: the two ranges, lent to be read, are the chip's banks.
use mathlib.Core.Path.{ap, ◌∙◌}
use Rattle.base_chip.specs.declared.Chip.TheVariants.{Newer}
use Rattle.reg_banks.specs.Banks.{Banks}
use Rattle.reg_write.specs.Write.{effect_at}
use Rattle.reg_ranges.proofs.Laws.{lent_banks}
use Rattle.reg_ranges.proofs.effects.effect_within.Goals as goal

pub returns : goal.returns
returns c =
    let at = c.args in
    c.effect_at.ensures
    ∙ ap (λ (k : Banks). effect_at Newer at.map.now k at.address at.v) (lent_banks at.memory.now at.ranges.n at.ranges.active at.ranges.buffer)
