-- Document 01, "Samples and edges" and "Records": what a list of samples does, the session, the banks and the words of touched registers
-- after it, and its records in order of time.
use Rattle.std.specs.Prelude.{ℕ, ◌+◌, Bool, List, [], ◌∷◌, ◌++◌}
use Rattle.base_chip.specs.declared.Chip.{Chip}
use Rattle.bus_session.specs.declared.Port.{Port}
use Rattle.bus_session.specs.declared.Session.{Session}
use Rattle.bus_session.specs.declared.Event.{Event}
use Rattle.bus_session.specs.Step.{step_of}
use Rattle.bus_session.specs.Event.{event_of}
use Rattle.reg_banks.specs.Banks.{Banks, banks}
use Rattle.read_records.specs.BanksAfter.{banks_after, armed_after, touched_after}
use Rattle.read_records.specs.Records.{record_of, records_in}

-- a session, its banks, and the words of touched registers (document 02, Ask 7)
pub record ReaderState : Type 0 where
  pub session : Session
  pub banks : Banks
  pub touched : List ℕ

abbrev pub reader_state : Session → List ℕ → List ℕ → List ℕ → ReaderState
reader_state s active buffer words = record { session = s; banks = banks active buffer; touched = words }

-- the same by the session's two parts
abbrev pub reader_state_of : Port → Bool → List ℕ → List ℕ → List ℕ → ReaderState
reader_state_of p armed active buffer words = reader_state (record { port = p; armed = armed }) active buffer words

-- what the next sample completes: the port alone decides it
abbrev pub event_at : Chip → ReaderState → ℕ → Event
event_at c w x = event_of c w.session.port x

-- One sample: the port steps by itself; all else follows from what the sample completes.
abbrev pub reader_state_after : Chip → List ℕ → ReaderState → ℕ → ReaderState
reader_state_after c m w x = record {
  session = record { port = step_of c w.session.port x; armed = armed_after c m w.session.armed w.banks (event_at c w x) };
  banks = banks_after c m w.session.armed w.banks (event_at c w x);
  touched = touched_after c m w.touched w.banks (event_at c w x);
}

-- all samples
unfoldable pub run_of : Chip → List ℕ → ReaderState → List ℕ → ReaderState
run_of c m w [] = w
run_of c m w (x ∷ xs) = run_of c m (reader_state_after c m w x) xs

-- the bytes of all records
unfoldable pub records_of : Chip → List ℕ → ReaderState → List ℕ → List ℕ
records_of c m w [] = []
records_of c m w (x ∷ xs) = record_of c m w.banks w.session.port.settings (event_at c w x) ++ records_of c m (reader_state_after c m w x) xs

-- how many records the samples give: the port alone decides it
unfoldable pub record_count : Chip → Port → List ℕ → ℕ
record_count c s [] = 0
record_count c s (x ∷ xs) = records_in (event_of c s x) + record_count c (step_of c s x) xs
