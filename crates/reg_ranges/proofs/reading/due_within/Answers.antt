-- `due_within` meets its contract: the two ranges, lent to be read, are the chip's banks.
use mathlib.Core.Path.{ap, ◌∙◌}
use Rattle.base_chip.specs.declared.Chip.TheVariants.{Newer}
use Rattle.reg_banks.specs.Banks.{Banks}
use Rattle.reg_banks.specs.Read.{due_byte}
use Rattle.reg_ranges.proofs.Laws.{lent_banks}
use Rattle.reg_ranges.proofs.reading.due_within.Goals as goal

pub returns : goal.returns
returns c =
    let at = c.args in
    c.due_byte.ensures
    ∙ ap (λ (k : Banks). due_byte Newer at.map.now k at.settings at.address) (lent_banks at.memory.now at.ranges.n at.ranges.active at.ranges.buffer)
