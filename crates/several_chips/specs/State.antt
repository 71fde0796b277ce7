-- Document 02, Ask 10: several chips on one wire. Each is read with its select as CSB, and no step of one looks at another.
use Rattle.std.specs.Prelude.{ℕ, ◌+◌, Bool, false, cond, ◌&&◌, ◌||◌, List, [], ◌∷◌, ◌++◌, ltb, set}
use Rattle.base_chip.specs.declared.Chip.TheVariants.{Newer}
use Rattle.bus_session.specs.declared.Port.{Port}
use Rattle.bus_session.specs.declared.Session.{Session}
use Rattle.bus_session.specs.declared.Event.{Event}
use Rattle.bus_session.specs.declared.Event.TheVariants.{Nothing, Whole, Aborted, Ended}
use Rattle.bus_session.specs.State.{is_data}
use Rattle.bus_session.specs.Step.{step_of, takes_bit}
use Rattle.bus_session.specs.Event.{event_of}
use Rattle.reg_banks.specs.Banks.{Banks}
use Rattle.read_records.specs.BanksAfter.{banks_after, armed_after}
use Rattle.read_records.specs.Records.{record_of}
use Rattle.several_chips.specs.Samples.{Sample, seen_by, other_low}

-- one chip: its session, its mark of contention, and its banks
pub record State : Type 0 where
  pub session : Session
  pub contended : Bool
  pub banks : Banks

-- bits of a read byte are taken
abbrev pub mid_read : Port → Bool
mid_read p = is_data p.phase && (p.read && ltb 0 p.bits)

-- what a sample completes for chip i
abbrev pub chip_event : ℕ → State → Sample → Event
chip_event i s x = event_of Newer s.session.port (seen_by i x)

-- another select was low at an edge of the byte under way, that of this sample with it
abbrev pub contended_now : ℕ → State → Sample → Bool
contended_now i s x = s.contended || (takes_bit s.session.port (seen_by i x) && other_low i x)

abbrev pub port_after : ℕ → State → Sample → Port
port_after i s x = step_of Newer s.session.port (seen_by i x)

-- One sample: chip i as if alone, and its mark, which is clear unless bits of a read byte are taken.
unfoldable pub state_after : List ℕ → ℕ → State → Sample → State
state_after m i s x = record {
  session = record { port = port_after i s x; armed = armed_after Newer m s.session.armed s.banks (chip_event i s x) };
  contended = mid_read (port_after i s x) && contended_now i s x;
  banks = banks_after Newer m s.session.armed s.banks (chip_event i s x);
}

-- an event gives one record, or none
abbrev pub given {ℓ} : {A : Type ℓ} → Event → A → List A
given Nothing r = []
given (Whole read a v) r = r ∷ []
given (Aborted a bits in_data) r = r ∷ []
given Ended r = []

-- a whole byte that was read can be contended
abbrev pub is_read_byte : Event → Bool
is_read_byte Nothing = false
is_read_byte (Whole read a v) = read
is_read_byte (Aborted a bits in_data) = false
is_read_byte Ended = false

-- a record: the chip's number, and the chip's own record, in which 2 stands for contention before the moved bits
abbrev pub numbered : ℕ → Bool → List ℕ → List ℕ
numbered i contended r = i ∷ cond contended (set r 5 2) r

-- the record that a sample gives of chip i, or none
unfoldable pub record_at : List ℕ → ℕ → State → Sample → List (List ℕ)
record_at m i s x =
    given (chip_event i s x)
    (numbered i (is_read_byte (chip_event i s x) && contended_now i s x) (record_of Newer m s.banks s.session.port.settings (chip_event i s x)))

-- one sample: all chips, from number i on, in their order
unfoldable pub all_after : List ℕ → ℕ → List State → Sample → List State
all_after m i [] x = []
all_after m i (s ∷ ss) x = state_after m i s x ∷ all_after m (i + 1) ss x

unfoldable pub records_at : List ℕ → ℕ → List State → Sample → List (List ℕ)
records_at m i [] x = []
records_at m i (s ∷ ss) x = record_at m i s x ++ records_at m (i + 1) ss x

-- all samples
unfoldable pub run_all : List ℕ → List State → List Sample → List State
run_all m ss [] = ss
run_all m ss (x ∷ xs) = run_all m (all_after m 0 ss x) xs

unfoldable pub records_all : List ℕ → List State → List Sample → List (List ℕ)
records_all m ss [] = []
records_all m ss (x ∷ xs) = records_at m 0 ss x ++ records_all m (all_after m 0 ss x) xs

-- records one after the other, as they stand in the room
unfoldable pub joined_records : List (List ℕ) → List ℕ
joined_records [] = []
joined_records (r ∷ rs) = r ++ joined_records rs
