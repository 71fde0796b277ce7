-- Document 01, "Registers and session": the session, which is a port and whether it is armed (document 02, Ask 4), and which are sound;
-- document 02, Ask 1: what the older chips add. Every port is made by `fresh` and the five functions after it: a new field changes these.
use Rattle.std.specs.Prelude.{ℕ, ◌^◌, ◌<◌, Bool, true, false, not, ◌&&◌, ◌||◌, List, [], ◌∷◌, eqb, ltb, leb}
use Rattle.base_bits.specs.Bits.{bit_at}
use Rattle.base_bits.specs.Tests.{every}
use Rattle.base_chip.specs.declared.Chip.{Chip}
use Rattle.base_chip.specs.declared.Chip.TheVariants.{Newer, Older}
use Rattle.base_chip.specs.Chip.{is_newer}
use Rattle.bus_settings.specs.declared.Settings.{Settings}
use Rattle.bus_settings.specs.declared.InUse.{InUse}
use Rattle.bus_settings.specs.Settings.{in_use_of, none_in_use}
use Rattle.bus_session.specs.declared.Phase.{Phase}
use Rattle.bus_session.specs.declared.Phase.TheVariants.{Rest, Instruction, Data}
use Rattle.bus_session.specs.declared.Port.{Port}
use Rattle.bus_session.specs.declared.Session.{Session}

-- in a phase with the last levels and the settings: no bit taken, address and direction zero, no bytes left
abbrev pub fresh : Bool → Bool → Phase → Settings → InUse → Port
fresh csb sclk p t u = record {
  csb = csb;
  sclk = sclk;
  phase = p;
  bits = 0;
  value = 0;
  address = 0;
  read = false;
  settings = t;
  in_use = u;
  left = 0;
}

-- with other last levels
abbrev pub at_levels : Port → Bool → Bool → Port
at_levels s csb sclk = record {
  csb = csb;
  sclk = sclk;
  phase = s.phase;
  bits = s.bits;
  value = s.value;
  address = s.address;
  read = s.read;
  settings = s.settings;
  in_use = s.in_use;
  left = s.left;
}

-- in another phase
abbrev pub with_phase : Port → Phase → Port
with_phase s p = record {
  csb = s.csb;
  sclk = s.sclk;
  phase = p;
  bits = s.bits;
  value = s.value;
  address = s.address;
  read = s.read;
  settings = s.settings;
  in_use = s.in_use;
  left = s.left;
}

-- with some bits of a piece taken
abbrev pub with_bits : Port → ℕ → ℕ → Port
with_bits s bits value = record {
  csb = s.csb;
  sclk = s.sclk;
  phase = s.phase;
  bits = bits;
  value = value;
  address = s.address;
  read = s.read;
  settings = s.settings;
  in_use = s.in_use;
  left = s.left;
}

-- at an address, in a direction, with so many bytes left of a run that is counted
abbrev pub at_address : Port → ℕ → Bool → ℕ → Port
at_address s address read left = record {
  csb = s.csb;
  sclk = s.sclk;
  phase = s.phase;
  bits = s.bits;
  value = s.value;
  address = address;
  read = read;
  settings = s.settings;
  in_use = s.in_use;
  left = left;
}

-- with other settings, and others in use
abbrev pub with_settings : Port → Settings → InUse → Port
with_settings s t u = record {
  csb = s.csb;
  sclk = s.sclk;
  phase = s.phase;
  bits = s.bits;
  value = s.value;
  address = s.address;
  read = s.read;
  settings = t;
  in_use = u;
  left = s.left;
}

-- only the last levels change, to those of a sample
abbrev pub with_levels : Port → ℕ → Port
with_levels s x = at_levels s (bit_at x 0) (bit_at x 1)

-- the zeros of rest, with the last levels
abbrev pub idle : Bool → Bool → Settings → Port
idle csb sclk t = fresh csb sclk Rest t none_in_use

-- at rest: CSB is high
abbrev pub resting : Bool → Settings → Port
resting sclk t = idle true sclk t

-- Document 02, Ask 1: an older chip passes bits over, with the select low and the zeros of rest.
abbrev pub passing : Bool → Settings → Port
passing sclk t = idle false sclk t

-- in an instruction, with some of its bits taken
abbrev pub instructing : Bool → ℕ → ℕ → Settings → InUse → Port
instructing sclk bits value t u = with_bits (fresh false sclk Instruction t u) bits value

-- an instruction starts, and the settings in use are taken from the settings
abbrev pub starting : Bool → Settings → Port
starting sclk t = fresh false sclk Instruction t (in_use_of t)

-- in the data at an address, with some bits of a byte taken
abbrev pub in_data : Bool → ℕ → ℕ → ℕ → Bool → ℕ → Settings → InUse → Port
in_data sclk bits value address read left t u = at_address (with_bits (fresh false sclk Data t u) bits value) address read left

-- Ask 1: 1 to 3 bytes left of a run that is counted, and 4 where it streams. A newer chip has neither.
abbrev pub is_counted : ℕ → Bool
is_counted left = leb 1 left && leb left 3

abbrev pub streams : ℕ
streams = 4

-- Unless streaming, the select may rise before any data byte of a run: in data, with no bits of a byte taken.
abbrev pub may_stall : Port → Bool
may_stall s = is_counted s.left && eqb s.bits 0

-- what data adds: on an older chip streaming or 1 to 3 bytes left, with an address up to the top; on a newer one nothing
abbrev pub length_good : Chip → ℕ → ℕ → Bool
length_good Newer left address = eqb left 0
length_good (Older part top) left address = (is_counted left || eqb left streams) && leb address top

-- the zeros of rest: bits, value, address, direction, bytes left and settings in use
abbrev pub zero_tests : Port → List Bool
zero_tests s =
    eqb s.bits 0 ∷ eqb s.value 0 ∷ eqb s.address 0 ∷ not s.read ∷ eqb s.left 0
    ∷ not s.in_use.lsb_first ∷ not s.in_use.ascending ∷ not s.in_use.sdo_active ∷ not s.in_use.single_instruction
    ∷ []

-- Soundness, phase by phase. Rest holds exactly if the last CSB is high, but for an older chip's run: it passes over
-- at rest with CSB low, and stalls in data with CSB high; an instruction has 0 to 15 bits, with
-- address and direction zero; data has 0 to 7 bits; the value is below 2 to the number of bits.
abbrev pub sound_tests : Chip → Phase → Port → List Bool
sound_tests c Rest s = (s.csb || not (is_newer c)) ∷ zero_tests s
sound_tests c Instruction s =
    not s.csb ∷ leb s.bits 15 ∷ ltb s.value (2 ^ s.bits) ∷ eqb s.address 0 ∷ not s.read ∷ eqb s.left 0 ∷ []
sound_tests c Data s =
    (not s.csb || may_stall s)
    ∷ leb s.bits 7 ∷ ltb s.value (2 ^ s.bits) ∷ leb s.address 0x7FFF ∷ length_good c s.left s.address
    ∷ []

unfoldable pub sound_port : Chip → Port → Bool
sound_port c s = every (sound_tests c s.phase s)

abbrev pub is_rest : Phase → Bool
is_rest Rest = true
is_rest Instruction = false
is_rest Data = false

-- Document 02, Ask 4: a session is armed only inside a frame of a newer chip.
abbrev pub may_arm : Chip → Port → Bool
may_arm c p = is_newer c && not (is_rest p.phase)

unfoldable pub sound_session : Chip → Session → Bool
sound_session c s = sound_port c s.port && (not s.armed || may_arm c s.port)

abbrev pub is_data : Phase → Bool
is_data Rest = false
is_data Instruction = false
is_data Data = true

-- how many bits the piece of a phase has
abbrev pub width_of : Phase → ℕ
width_of Rest = 1
width_of Instruction = 16
width_of Data = 8

-- What the core asks of a port, and every sound one has: a piece that is not whole, its value, and an address of 15 bits.
pub record PortBounds (s : Port) : Type 0 where
  pub unfinished : s.bits < width_of s.phase
  pub small : s.value < 2 ^ s.bits
  pub near : s.address < 0x8000
