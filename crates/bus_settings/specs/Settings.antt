-- The settings: which way the address goes, what a write to a control register makes of them, and what those registers read as.
use Rattle.std.specs.Prelude.{ℕ, ◌+◌, ◌*◌, ◌%◌, Bool, false, cond, ◌&&◌, eqb}
use Rattle.base_bits.specs.Bits.{bit_at, bit_of}
use Rattle.base_card.specs.Card.{is_mirror}
use Rattle.base_chip.specs.declared.Part.{Part}
use Rattle.base_chip.specs.declared.Chip.{Chip}
use Rattle.base_chip.specs.declared.Chip.TheVariants.{Newer, Older}
use Rattle.base_chip.specs.Registers.{configuration_a, configuration_b, serial_control, readback_control}
use Rattle.base_chip.specs.Chip.{part_reads_buffer, transfer_place}
use Rattle.bus_settings.specs.declared.Settings.{Settings}
use Rattle.bus_settings.specs.declared.InUse.{InUse}
use Rattle.bus_settings.specs.Bits.{reset_bit, lsb_first_bit, ascending_bit, sdo_active_bit, single_instruction_bit, buffer_readback_bit}
use Rattle.bus_settings.specs.Bits.{transfer_bit, readback_control_bit}

-- Document 01, "Registers and session": opening leaves all settings clear.
abbrev pub all_clear : Settings
all_clear = record { lsb_first = false; ascending = false; sdo_active = false; single_instruction = false; readback = false }

-- settings with others for the first three
abbrev pub with_first_three : Settings → Bool → Bool → Bool → Settings
with_first_three t lsb ascending sdo = record {
  lsb_first = lsb;
  ascending = ascending;
  sdo_active = sdo;
  single_instruction = t.single_instruction;
  readback = t.readback;
}

-- and with others for the last two
abbrev pub with_last_two : Settings → Bool → Bool → Settings
with_last_two t single readback = record {
  lsb_first = t.lsb_first;
  ascending = t.ascending;
  sdo_active = t.sdo_active;
  single_instruction = single;
  readback = readback;
}

-- Document 01, "Registers and session": the settings in use are the first four settings.
abbrev pub in_use_of : Settings → InUse
in_use_of t = record { lsb_first = t.lsb_first; ascending = t.ascending; sdo_active = t.sdo_active; single_instruction = t.single_instruction }

-- at rest none is in use
abbrev pub none_in_use : InUse
none_in_use = in_use_of all_clear

-- Document 02, Ask 1: of the settings in use, those that count. On an older chip the bit order alone does: highest bit first goes down
-- in address, lowest first up; reads come from SDIO, and there is no single instruction.
abbrev pub counting : Chip → InUse → InUse
counting Newer u = u
counting (Older part top) u = record { lsb_first = u.lsb_first; ascending = u.lsb_first; sdo_active = false; single_instruction = false }

-- Document 01, "Samples and edges": the address after a whole byte, up by one or down by one, modulo 0x8000.
abbrev pub next_address : Bool → ℕ → ℕ
next_address ascending a = cond ascending ((a + 1) % 0x8000) ((a + 0x7FFF) % 0x8000)

-- Document 01, "What a whole byte does", 0x0000. Document 02, Ask 2: only a byte that is its own mirror takes effect, so that one bit
-- of a pair tells the other.
abbrev pub resets : ℕ → Bool
resets v = bit_at v reset_bit

-- three settings are taken from such a byte; a soft reset clears the other two
abbrev pub configured : Settings → ℕ → Settings
configured t v = with_first_three (cond (resets v) all_clear t) (bit_at v lsb_first_bit) (bit_at v ascending_bit) (bit_at v sdo_active_bit)

-- 0x0001, without the slow setting (document 02, Ask 9); the other bits are ignored.
abbrev pub configured_b : Settings → ℕ → Settings
configured_b t v = with_last_two t (bit_at v single_instruction_bit) (bit_at v buffer_readback_bit)

-- the settings of a newer chip after v is written to an address
unfoldable pub newer_after : Settings → ℕ → ℕ → Settings
newer_after t address v =
    cond (eqb address configuration_a) (cond (is_mirror v) (configured t v) t)
    (cond (eqb address configuration_b) (configured_b t v)
    t)

-- Document 02, Ask 1: 0x0000 of an older chip sets the bit order; the other bits are ignored.
abbrev pub ordered : Settings → ℕ → Settings
ordered t v = with_first_three t (bit_at v lsb_first_bit) t.ascending t.sdo_active

-- 0x0004 of the AD9557: the bit set reads the buffer stage; the other bits are ignored.
abbrev pub staged : Settings → ℕ → Settings
staged t v = with_last_two t t.single_instruction (bit_at v readback_control_bit)

-- the settings of an older part after v is written to an address
unfoldable pub older_after : Part → Settings → ℕ → ℕ → Settings
older_after part t address v =
    cond (eqb address serial_control) (ordered t v)
    (cond (eqb address readback_control && part_reads_buffer part) (staged t v)
    t)

-- the settings after v is written to an address
abbrev pub settings_after : Chip → Settings → ℕ → ℕ → Settings
settings_after Newer t address v = newer_after t address v
settings_after (Older part top) t address v = older_after part t address v

-- What a control register reads as: 0x0000 the settings on both bits of each pair (0x42 are bits 6 and 1, 0x24 are 5 and 2, 0x18 are 4
-- and 3); 0x0001 its two bits (0x80 is bit 7, 0x20 bit 5); 0x000F zero.
unfoldable pub newer_reading : Settings → ℕ → ℕ
newer_reading t address =
    cond (eqb address configuration_a) (bit_of t.lsb_first * 0x42 + bit_of t.ascending * 0x24 + bit_of t.sdo_active * 0x18)
    (cond (eqb address configuration_b) (bit_of t.single_instruction * 0x80 + bit_of t.readback * 0x20)
    0)

-- Document 02, Ask 1: 0x0000 and 0x0004 of an older part read as their one stored bit; 0x0005 as zero.
unfoldable pub older_reading : Settings → ℕ → ℕ
older_reading t address =
    cond (eqb address serial_control) (bit_of t.lsb_first * 0x40)
    (cond (eqb address readback_control) (bit_of t.readback * 0x01)
    0)

abbrev pub control_reading : Chip → Settings → ℕ → ℕ
control_reading Newer t address = newer_reading t address
control_reading (Older part top) t address = older_reading t address

-- a byte written to a control register asks for a transfer: a 1 in the bit of the transfer's register
abbrev pub transfers_at : Chip → ℕ → ℕ → Bool
transfers_at c address v = eqb address (transfer_place c) && bit_at v transfer_bit
