-- Document 02, Ask 10, in steps: the parts of one chip's turn at one sample.
use Rattle.std.specs.Prelude.{ℕ, ◌+◌, ◌<◌, ◌≤◌, ◌≡◌, Bool, true, not, ◌&&◌, ◌||◌, List, [], length, set}
use Rattle.std.proofs.lemmas.List.Edits.{sets}
use Rattle.base_bits.specs.Bits.{bit_of}
use Rattle.base_chip.specs.declared.Chip.TheVariants.{Newer}
use Rattle.map_format.specs.Format.{count_of}
use Rattle.bus_settings.specs.declared.Settings.{Settings}
use Rattle.bus_session.specs.declared.Session.{Session}
use Rattle.bus_session.specs.declared.Event.{Event}
use Rattle.bus_session.specs.Step.{csb_of, sclk_of}
use Rattle.reg_banks.specs.Banks.{Banks, banks}
use Rattle.reg_ranges.specs.Ranges.{banks_in, placed, RangesWithin}
use Rattle.read_records.specs.BanksAfter.{banks_after, armed_after}
use Rattle.read_records.specs.Records.{record_of}
use Rattle.read_records.specs.declared.EventOutcome.{EventOutcome}
use Rattle.several_chips.specs.declared.Member.{Member}
use Rattle.several_chips.specs.declared.step.Moved.{Moved}
use Rattle.several_chips.specs.Samples.{Sample}
use Rattle.several_chips.specs.State.{State, state_after, given, is_read_byte, numbered, record_at, joined_records}
use Rattle.several_chips.specs.Members.{state_of, member_with, sound_member}

-- a sample moves the last levels alone: CSB is as it was, and no bit is taken
abbrev pub only_levels : Bool → Bool → ℕ → Bool
only_levels csb sclk x = (csb && csb_of x) || (not csb && (not (csb_of x) && (sclk || not (sclk_of x))))

-- a chip with another last level of SCLK
abbrev pub with_clock : Member → Bool → Member
with_clock w sclk = record {
  session = set w.session 2 (bit_of sclk);
  contended = w.contended;
  active_start = w.active_start;
  active_length = w.active_length;
  buffer_start = w.buffer_start;
  buffer_length = w.buffer_length;
}

-- a chip's session and mark, without its banks
abbrev pub state : Session → Bool → State
state s contended = record { session = s; contended = contended; banks = banks [] [] }

-- the bytes of the record that an event gives of chip i, or none
abbrev pub event_bytes : List ℕ → Banks → Settings → Event → ℕ → Bool → List ℕ
event_bytes m b t e i contended = joined_records (given e (numbered i (is_read_byte e && contended) (record_of Newer m b t e)))

-- before an event is taken: the ranges of the chip, and room for its record
pub record TakingWithin (m mem : List ℕ) (n a b : ℕ) (t : Settings) (e : Event) (i : ℕ) (contended : Bool) (old : List ℕ) (at : ℕ) : Type 0 where
  pub within : RangesWithin m mem n a b
  pub room : at + length (event_bytes m (banks_in mem n a b) t e i contended) ≤ length old

-- after it: the banks in the memory, whether the session is armed, the record in its place, and the place after it
pub record TakenWithin
    (m mem : List ℕ) (n a b : ℕ) (t : Settings) (armed : Bool) (e : Event) (i : ℕ) (contended : Bool) (old : List ℕ) (at : ℕ)
    (memory new : List ℕ) (took : EventOutcome) : Type 0 where
  pub memory_after : memory ≡ placed mem a b (banks_after Newer m armed (banks_in mem n a b) e)
  pub next_armed : took.armed ≡ armed_after Newer m armed (banks_in mem n a b) e
  pub records_after : new ≡ sets old at (event_bytes m (banks_in mem n a b) t e i contended)
  pub next_place : took.at ≡ at + length (event_bytes m (banks_in mem n a b) t e i contended)

-- before a sample moves a chip: what a turn asks, of a sample at hand
pub record Moving (m : List ℕ) (w : Member) (mem : List ℕ) (x : Sample) (i : ℕ) (old : List ℕ) (at : ℕ) : Type 0 where
  pub sound : sound_member w ≡ true
  pub active_size : w.active_length ≡ count_of m
  pub buffer_size : w.buffer_length ≡ count_of m
  pub within : RangesWithin m mem (count_of m) w.active_start w.buffer_start
  pub number : i < 8
  pub lines : x.lines ≤ 15
  pub room : at + length (joined_records (record_at m i (state_of mem w) x)) ≤ length old

-- after it: the chip, its banks in the memory, its record, and the place after it
pub record HasMoved
    (m : List ℕ) (w : Member) (mem : List ℕ) (x : Sample) (i : ℕ) (old : List ℕ) (at : ℕ) (r : Moved) (memory new : List ℕ) : Type 0 where
  pub member_after : r.member ≡ member_with w (state_after m i (state_of mem w) x)
  pub memory_after : memory ≡ placed mem w.active_start w.buffer_start (state_after m i (state_of mem w) x).banks
  pub records_after : new ≡ sets old at (joined_records (record_at m i (state_of mem w) x))
  pub next_place : r.at ≡ at + length (joined_records (record_at m i (state_of mem w) x))
