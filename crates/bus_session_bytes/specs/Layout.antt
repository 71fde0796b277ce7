-- RULES, "The library for hosts": the session as bytes, so that it can cross to a host.
use Rattle.std.specs.Prelude.{ℕ, ◌+◌, ◌*◌, ◌/◌, ◌%◌, Bool, cond, List, [], ◌∷◌, ◌++◌, length, eqb, leb}
use Rattle.base_bits.specs.Bits.{bit_of}
use Rattle.base_bits.specs.Bytes.{byte_at}
use Rattle.base_bits.specs.Tests.{every}
use Rattle.bus_settings.specs.declared.Settings.{Settings}
use Rattle.bus_settings.specs.declared.InUse.{InUse}
use Rattle.bus_session.specs.declared.Phase.{Phase}
use Rattle.bus_session.specs.declared.Phase.TheVariants.{Rest, Instruction, Data}
use Rattle.bus_session.specs.declared.Port.{Port}
use Rattle.bus_session.specs.declared.Session.{Session}

-- how many bytes a session has
abbrev pub session_size : ℕ
session_size = 21

-- the version of the layout: another layout has another one
abbrev pub layout_version : ℕ
layout_version = 4

-- 0 rest, 1 instruction, 2 data
abbrev pub phase_byte : Phase → ℕ
phase_byte Rest = 0
phase_byte Instruction = 1
phase_byte Data = 2

abbrev pub phase_of_byte : ℕ → Phase
phase_of_byte x = cond (eqb x 0) Rest (cond (eqb x 1) Instruction Data)

-- the settings, a byte each
abbrev pub settings_bytes : Settings → List ℕ
settings_bytes t =
    bit_of t.lsb_first ∷ bit_of t.ascending ∷ bit_of t.sdo_active ∷ bit_of t.single_instruction ∷ bit_of t.readback ∷ []

-- the settings in use
abbrev pub in_use_bytes : InUse → List ℕ
in_use_bytes u = bit_of u.lsb_first ∷ bit_of u.ascending ∷ bit_of u.sdo_active ∷ bit_of u.single_instruction ∷ []

-- The bytes of a port: the last levels of CSB and SCLK, the phase, the bits taken and their value, the address, the direction, the
-- settings and those in use, and the bytes left of a run. What has 16 bits is big-endian.
abbrev pub port_bytes : Port → List ℕ
port_bytes p =
    bit_of p.csb ∷ bit_of p.sclk ∷ phase_byte p.phase
    ∷ p.bits ∷ p.value / 256 ∷ p.value % 256 ∷ p.address / 256 ∷ p.address % 256 ∷ bit_of p.read
    ∷ settings_bytes p.settings ++ in_use_bytes p.in_use ++ (p.left ∷ [])

-- The bytes of a session: the version, its port, and whether it is armed.
unfoldable pub session_bytes : Session → List ℕ
session_bytes s = layout_version ∷ port_bytes s.port ++ (bit_of s.armed ∷ [])

-- this version, a phase of 0 to 2, and flags of 0 or 1
abbrev pub field_tests : List ℕ → List Bool
field_tests b =
    eqb (byte_at b 0) layout_version
    ∷ leb (byte_at b 1) 1 ∷ leb (byte_at b 2) 1 ∷ leb (byte_at b 3) 2 ∷ leb (byte_at b 9) 1
    ∷ leb (byte_at b 10) 1 ∷ leb (byte_at b 11) 1 ∷ leb (byte_at b 12) 1 ∷ leb (byte_at b 13) 1 ∷ leb (byte_at b 14) 1
    ∷ leb (byte_at b 15) 1 ∷ leb (byte_at b 16) 1 ∷ leb (byte_at b 17) 1 ∷ leb (byte_at b 18) 1
    ∷ leb (byte_at b 20) 1
    ∷ []

-- Whether bytes are a session: as many as it has, and each field is one.
unfoldable pub are_session : List ℕ → Bool
are_session b = every (eqb (length b) session_size ∷ field_tests b)

-- two bytes as a number, big-endian
abbrev pub word_of_bytes : ℕ → ℕ → ℕ
word_of_bytes high low = high * 256 + low

-- whether the flag at a place is set
abbrev flag_at : List ℕ → ℕ → Bool
flag_at b i = eqb (byte_at b i) 1

-- The port that bytes are.
abbrev pub port_of : List ℕ → Port
port_of b = record {
  csb = flag_at b 1;
  sclk = flag_at b 2;
  phase = phase_of_byte (byte_at b 3);
  bits = byte_at b 4;
  value = word_of_bytes (byte_at b 5) (byte_at b 6);
  address = word_of_bytes (byte_at b 7) (byte_at b 8);
  read = flag_at b 9;
  settings = record {
    lsb_first = flag_at b 10;
    ascending = flag_at b 11;
    sdo_active = flag_at b 12;
    single_instruction = flag_at b 13;
    readback = flag_at b 14;
  };
  in_use = record { lsb_first = flag_at b 15; ascending = flag_at b 16; sdo_active = flag_at b 17; single_instruction = flag_at b 18 };
  left = byte_at b 19;
}

-- The session that bytes are.
unfoldable pub session_of : List ℕ → Session
session_of b = record { port = port_of b; armed = flag_at b 20 }
