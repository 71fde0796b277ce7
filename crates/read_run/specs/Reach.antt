-- Document 02, Ask 1: which addresses a chip has, of those that an instruction can name.
use Rattle.std.specs.Prelude.{ℕ, Bool, true, leb}
use Rattle.base_chip.specs.declared.Chip.{Chip}
use Rattle.base_chip.specs.declared.Chip.TheVariants.{Newer, Older}

abbrev pub reaches : Chip → ℕ → Bool
reaches Newer address = true
reaches (Older part top) address = leb address top
