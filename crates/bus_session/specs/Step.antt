-- Document 01, "Samples and edges": the core takes one sample and hands back the next state. Document 02, Ask 1: where the older chips differ.
use Rattle.std.specs.Prelude.{ℕ, ◌+◌, ◌-◌, ◌/◌, ◌%◌, Bool, true, false, cond, not, ◌&&◌, ◌||◌, eqb, ltb, leb}
use Rattle.base_bits.specs.Bits.{bit_at, shifted_in}
use Rattle.base_chip.specs.declared.Chip.{Chip}
use Rattle.base_chip.specs.declared.Chip.TheVariants.{Newer, Older}
use Rattle.bus_settings.specs.declared.Settings.{Settings}
use Rattle.bus_settings.specs.declared.InUse.{InUse}
use Rattle.bus_settings.specs.Settings.{counting, next_address, settings_after}
use Rattle.bus_session.specs.declared.Phase.{Phase}
use Rattle.bus_session.specs.declared.Phase.TheVariants.{Rest, Instruction, Data}
use Rattle.bus_session.specs.declared.Port.{Port}
use Rattle.bus_session.specs.State.{resting, instructing, starting, in_data, passing, with_levels, is_counted, may_stall}

-- the levels of a sample
abbrev pub csb_of : ℕ → Bool
csb_of x = bit_at x 0

abbrev pub sclk_of : ℕ → Bool
sclk_of x = bit_at x 1

abbrev pub sdio_of : ℕ → Bool
sdio_of x = bit_at x 2

abbrev pub sdo_of : ℕ → Bool
sdo_of x = bit_at x 3

-- CSB high to low
abbrev pub csb_falls : Port → ℕ → Bool
csb_falls s x = s.csb && not (csb_of x)

-- CSB low to high
abbrev pub csb_rises : Port → ℕ → Bool
csb_rises s x = not s.csb && csb_of x

-- CSB falls, and no byte of a run is left: one that stalls resumes
abbrev pub frame_starts : Port → ℕ → Bool
frame_starts s x = csb_falls s x && eqb s.left 0

-- CSB rises, and no run of an older chip can stall here: elsewhere a rise resets the port
abbrev pub frame_ends : Port → ℕ → Bool
frame_ends s x = csb_rises s x && not (may_stall s)

-- CSB low before and now, SCLK low before and high now
abbrev pub takes_bit : Port → ℕ → Bool
takes_bit s x = not s.csb && not (csb_of x) && not s.sclk && sclk_of x

-- the value of the present piece with one more bit
abbrev pub value_with : Port → Bool → ℕ
value_with s b = shifted_in s.in_use.lsb_first s.value s.bits b

-- After a whole instruction, by its value. Bit 15 is 1 for read. Newer chips: bits 14 to 0 are the address. Older ones: two length bits,
-- 00, 01, 10 for one, two, three bytes, and 11 streams; 13 address bits; with a start above the top, bits are passed over at once.
unfoldable pub entered : Chip → ℕ → Settings → InUse → Port
entered Newer v t u = in_data true 0 0 (v % 0x8000) (leb 0x8000 v) 0 t u
entered (Older part top) v t u =
    cond (leb (v % 0x2000) top) (in_data true 0 0 (v % 0x2000) (leb 0x8000 v) (v / 0x2000 % 4 + 1) t u) (passing true t)

-- one bit of an instruction
unfoldable pub with_instruction_bit : Chip → Port → Bool → Port
with_instruction_bit c s b =
    cond (ltb s.bits 15) (instructing true (s.bits + 1) (value_with s b) s.settings s.in_use)
    (entered c (value_with s b) s.settings s.in_use)

-- the settings after a whole byte v: a read changes none
abbrev pub settings_on_byte : Chip → Port → ℕ → Settings
settings_on_byte c s v = cond s.read s.settings (settings_after c s.settings s.address v)

-- the settings in use that count on the chip
abbrev pub in_use_on : Chip → Port → InUse
in_use_on c s = counting c s.in_use

-- Ask 1: a run of an older chip ends after the count, at address 0 going down, and at the top going up.
abbrev pub runs_out : Chip → ℕ → ℕ → Bool → Bool
runs_out Newer left address lsb = false
runs_out (Older part top) left address lsb = eqb left 1 || eqb address (cond lsb top 0)

abbrev pub run_ends : Chip → Port → Bool
run_ends c s = runs_out c s.left s.address s.in_use.lsb_first

-- After a whole byte, with single instruction in use, a new instruction starts and takes the settings as they now stand. Where a run
-- ends, bits are passed over. Else data goes on at the next address, and a count falls by one.
abbrev pub after_byte : Chip → Port → Settings → Port
after_byte c s t =
    cond (in_use_on c s).single_instruction (starting true t)
    (cond (run_ends c s) (passing true t)
    (in_data true 0 0 (next_address (in_use_on c s).ascending s.address) s.read (cond (is_counted s.left) (s.left - 1) s.left) t s.in_use))

-- One bit of data.
unfoldable pub with_data_bit : Chip → Port → Bool → Port
with_data_bit c s b =
    cond (ltb s.bits 7) (in_data true (s.bits + 1) (value_with s b) s.address s.read s.left s.settings s.in_use)
    (after_byte c s (settings_on_byte c s (value_with s b)))

-- Write data comes from SDIO. Read data comes from SDO with SDO active in use, else from SDIO.
abbrev pub data_line : Chip → Port → ℕ → Bool
data_line c s x = cond (s.read && (in_use_on c s).sdo_active) (sdo_of x) (sdio_of x)

-- one bit, by the phase
abbrev pub with_bit : Chip → Phase → Port → ℕ → Port
with_bit c Rest s x = with_levels s x
with_bit c Instruction s x = with_instruction_bit c s (sdio_of x)
with_bit c Data s x = with_data_bit c s (data_line c s x)

-- The next port.
unfoldable pub step_of : Chip → Port → ℕ → Port
step_of c s x =
    cond (frame_starts s x) (starting (sclk_of x) s.settings)
    (cond (takes_bit s x) (with_bit c s.phase s x)
    (cond (frame_ends s x) (resting (sclk_of x) s.settings)
    (with_levels s x)))
