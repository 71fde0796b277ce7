-- Document 01, "What a whole byte does": the effect of a write of v.
use Rattle.std.specs.Prelude.{ℕ, Bool, true, false, cond, ◌&&◌, eqb}
use Rattle.std.specs.Int.Bits.{bit_xor}
use Rattle.base_bits.specs.Bits.{merged}
use Rattle.map_format.specs.declared.Entry.{Entry}
use Rattle.map_format.specs.Format.{plain, buffered, control}
use Rattle.base_card.specs.Card.{is_mirror}
use Rattle.base_chip.specs.declared.Chip.{Chip}
use Rattle.base_chip.specs.Registers.{configuration_a}
use Rattle.base_chip.specs.Chip.{is_newer}
use Rattle.bus_settings.specs.Settings.{resets, transfers_at}
use Rattle.reg_write.specs.declared.Stages.{Stages}
use Rattle.reg_write.specs.declared.Effect.{Effect}
use Rattle.reg_write.specs.declared.Effect.TheVariants.{Nothing, Byte, Control, Transfer, Reset, Ignored}

-- 0x0000 of a newer chip: a soft reset if the byte asks for it. Document 02, Ask 2: a byte that is not its own mirror is ignored.
abbrev pub configuration_effect : ℕ → Effect
configuration_effect v = cond (is_mirror v) (cond (resets v) Reset Control) Ignored

-- a control register: 0x0000 of a newer chip as above; else a transfer if the byte asks for it
unfoldable pub control_effect : Chip → ℕ → ℕ → Effect
control_effect c a v =
    cond (is_newer c && eqb a configuration_a) (configuration_effect v)
    (cond (transfers_at c a v) Transfer
    Control)

-- Document 02, Ask 8: of a byte that takes v where the mask has ones, the bits that differ from the old one
abbrev pub moved_bits : ℕ → ℕ → ℕ → ℕ
moved_bits old v mask = bit_xor old (merged 8 old v mask)

-- such a byte at an address: that of the buffer stage or, if not of the buffer, that of the active stage
abbrev pub byte_effect : Bool → ℕ → ℕ → ℕ → ℕ → Effect
byte_effect ofBuffer a old v mask = Byte ofBuffer a (merged 8 old v mask) (moved_bits old v mask)

-- By the register's entry and its bytes of both stages: kind 2 takes v into the active byte where the mask has ones, kind 3 into the
-- buffer byte. A blank or read-only register takes nothing, and beyond the map a register is blank.
unfoldable pub effect_of : Chip → Entry → Stages → ℕ → ℕ → Effect
effect_of c e s a v =
    cond (eqb e.kind plain) (byte_effect false a s.active v e.mask)
    (cond (eqb e.kind buffered) (byte_effect true a s.buffer v e.mask)
    (cond (eqb e.kind control) (control_effect c a v)
    Nothing))
