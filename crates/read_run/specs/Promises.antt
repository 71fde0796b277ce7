-- What the pass over the samples asks and promises.
use Rattle.std.specs.Prelude.{ℕ, ◌+◌, ◌*◌, ◌^◌, ◌<◌, ◌≤◌, ◌≡◌, Bool, true, false, List, length}
use Rattle.base_bits.specs.Bits.{bit_at}
use Rattle.base_bits.specs.Buffer.{filled}
use Rattle.base_sizes.specs.Sizes.{record_size}
use Rattle.base_chip.specs.declared.Chip.{Chip}
use Rattle.base_chip.specs.Chip.{is_newer}
use Rattle.map_format.specs.Format.{count_of}
use Rattle.bus_settings.specs.declared.Settings.{Settings}
use Rattle.bus_session.specs.declared.Event.{Event}
use Rattle.bus_session.specs.State.{sound_session}
use Rattle.bus_session.specs.Step.{value_with, entered, settings_on_byte, after_byte}
use Rattle.reg_banks.specs.Banks.{Banks, Mapped}
use Rattle.reg_write.specs.Rise.{moves_at_rise}
use Rattle.read_records.specs.Records.{records_in}
use Rattle.read_records.specs.declared.EventOutcome.{EventOutcome}
use Rattle.read_records.specs.Promises.{EventBefore, EventAfter}
use Rattle.read_run.specs.declared.events.Pass.{Pass}
use Rattle.read_run.specs.declared.scanning.ScanPort.{ScanPort}
use Rattle.read_run.specs.declared.RunEnd.{RunEnd}
use Rattle.read_run.specs.Reading.{ReaderState, run_of, records_of, record_count}
use Rattle.read_run.specs.ScanPort.{scanned_port, Tracks}

-- what stays the same for a pass with this map
abbrev pub pass_of : Chip → Bool → List ℕ → Pass
pass_of c storing m = record { chip = c; newer = is_newer c; moves = moves_at_rise c m; storing = storing }

-- before the first event
abbrev pub none_told : Bool → EventOutcome
none_told armed = record { at = 0; armed = armed }

-- where a pass ends, by the port and what the last event left
abbrev pub run_end : ScanPort → EventOutcome → RunEnd
run_end s told = record { session = record { port = scanned_port s; armed = told.armed }; size = told.at }

-- room for one bit more
pub record BitBounds (s : ScanPort) : Type 0 where
  pub unfinished : s.port.bits < 16
  pub small : s.port.value < 2 ^ s.port.bits

-- CSB is low, and a newer chip counts no bytes
pub record InFrame (c : Chip) (newer : Bool) (s : ScanPort) : Type 0 where
  pub newer_is : newer ≡ is_newer c
  pub low : s.port.csb ≡ false
  pub none_left : is_newer c ≡ true → s.port.left ≡ 0

-- before the last bit of an instruction
pub record EnterBefore (c : Chip) (newer : Bool) (s : ScanPort) : Type 0 where
  pub framed : InFrame c newer s
  pub room : BitBounds s

pub record EnterAfter (c : Chip) (s : ScanPort) (x : ℕ) (r : ScanPort) : Type 0 where
  pub next_port : scanned_port r ≡ entered c (value_with s.port (bit_at x 2)) s.port.settings s.port.in_use
  pub tracks : Tracks c r

-- before the last bit of a byte
pub record ByteBounds (s : ScanPort) (x : ℕ) : Type 0 where
  pub room : BitBounds s
  pub line : s.line < 4
  pub byte : value_with s.port (bit_at x s.line) < 256

-- after it
pub record WholeByteBefore (c : Chip) (newer : Bool) (s : ScanPort) : Type 0 where
  pub framed : InFrame c newer s
  pub tracks : Tracks c s
  pub is_data_piece : s.last ≡ 7
  pub near : s.port.address < 0x8000

pub record WholeByteAfter (c : Chip) (s : ScanPort) (byte : ℕ) (r : ScanPort) : Type 0 where
  pub next_port : scanned_port r ≡ after_byte c (scanned_port s) (settings_on_byte c (scanned_port s) byte)
  pub tracks : Tracks c r

-- before an event is taken, or only counted where no record is put
pub record PassBefore (c : Chip) (storing : Bool) (m : List ℕ) (b : Banks) (ws : List ℕ) (t : Settings) (e : Event) (old : List ℕ) (at : ℕ) : Type 0 where
  pub fits : at + record_size * records_in e < 2 ^ 64
  pub taking : storing ≡ true → EventBefore c m b ws t e old at

pub record PassAfter
    (c : Chip) (storing : Bool) (m : List ℕ) (k : Bool) (b : Banks) (ws : List ℕ) (t : Settings) (e : Event) (old : List ℕ) (at : ℕ)
    (after : Banks) (words new : List ℕ) (took : EventOutcome) : Type 0 where
  pub next_place : took.at ≡ at + record_size * records_in e
  pub taken : storing ≡ true → EventAfter c m k b ws t e old at after words new took

-- before samples are read: a sound session; and, where their records are put, what a good map and enough room give
pub record RunBefore (c : Chip) (storing : Bool) (m : List ℕ) (w : ReaderState) (samples old : List ℕ) : Type 0 where
  pub sound : sound_session c w.session ≡ true
  pub few : length samples ≤ 65536
  pub mapped : storing ≡ true → Mapped m w.banks
  pub bits : storing ≡ true → count_of m ≤ 64 * length w.touched
  pub room : storing ≡ true → length (records_of c m w samples) ≤ length old

-- after them, where their records are put: the session, the banks and the words, how many bytes of records, and the record buffer
pub record RunDone (c : Chip) (m : List ℕ) (w : ReaderState) (samples old : List ℕ) (after : ReaderState) (size : ℕ) (new : List ℕ) : Type 0 where
  pub next_state : after ≡ run_of c m w samples
  pub size_is : size ≡ length (records_of c m w samples)
  pub records_after : new ≡ filled (records_of c m w samples) old

-- after them, put or not: the size of a record for each
pub record RunAfter
    (c : Chip) (storing : Bool) (m : List ℕ) (w : ReaderState) (samples old : List ℕ)
    (after : ReaderState) (size : ℕ) (new : List ℕ) : Type 0 where
  pub record_size_each : size ≡ record_size * record_count c w.session.port samples
  pub done : storing ≡ true → RunDone c m w samples old after size new
