-- Document 02, Ask 1: what the kinds of chip differ in, as far as neither map nor session is needed.
use Rattle.std.specs.Prelude.{ℕ, Bool, true, false, ◌&&◌, leb}
use Rattle.base_chip.specs.declared.Part.{Part}
use Rattle.base_chip.specs.declared.Part.TheVariants.{Ad9557, Ad9508}
use Rattle.base_chip.specs.declared.Chip.{Chip}
use Rattle.base_chip.specs.declared.Chip.TheVariants.{Newer, Older}
use Rattle.base_chip.specs.Registers.{transfer_register, older_transfer}

abbrev pub is_newer : Chip → Bool
is_newer Newer = true
is_newer (Older part top) = false

-- the AD9557 can read the buffer stage, the AD9508 reads active
abbrev pub part_reads_buffer : Part → Bool
part_reads_buffer Ad9557 = true
part_reads_buffer Ad9508 = false

-- buffer readback, if it is set, counts
abbrev pub reads_buffer : Chip → Bool
reads_buffer Newer = true
reads_buffer (Older part top) = part_reads_buffer part

-- the register whose bit 0 asks for a transfer
abbrev pub transfer_place : Chip → ℕ
transfer_place Newer = transfer_register
transfer_place (Older part top) = older_transfer

-- Number 12, as far as no map is needed: the top is at least 0x000F and at most 0x1FFF.
abbrev pub top_good : Chip → Bool
top_good Newer = true
top_good (Older part top) = leb 0x000F top && leb top 0x1FFF
