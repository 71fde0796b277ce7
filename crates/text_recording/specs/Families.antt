-- Document 02, Ask 1: the chip that a recording is of.
use Rattle.std.specs.Prelude.{ℕ, ◌-◌, List}
use Rattle.base_chip.specs.declared.Chip.{Chip}
use Rattle.base_chip.specs.declared.Chip.TheVariants as chip
use Rattle.map_format.specs.Format.{count_of}
use Rattle.text_recording.specs.declared.Family.{Family}
use Rattle.text_recording.specs.declared.Family.TheVariants.{Newer, Older}

-- the top of an older part is n less 1
unfoldable pub chip_of : Family → List ℕ → Chip
chip_of Newer m = chip.Newer
chip_of (Older part) m = chip.Older part (count_of m - 1)
