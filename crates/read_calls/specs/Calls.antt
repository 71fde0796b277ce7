-- Document 01, "Numbers given back": the reader's two calls. What a call leaves is one value; a refusal leaves all as it was.
use Rattle.std.specs.Prelude.{ℕ, cond, List, length, eqb}
use Rattle.base_bits.specs.Buffer.{filled}
use Rattle.base_numbers.specs.Numbers.{done}
use Rattle.base_chip.specs.declared.Chip.{Chip}
use Rattle.bus_session.specs.declared.Session.{Session}
use Rattle.bus_soundness.specs.Opened.{opened_session}
use Rattle.reg_banks.specs.Banks.{Banks, default_banks}
use Rattle.read_run.specs.Reading.{ReaderState, run_of, records_of, record_count}
use Rattle.read_refusals.specs.Numbers.{open_number, read_number}

-- what a call of opening leaves
pub record Opening : Type 0 where
  pub number : ℕ
  pub session : Session
  pub banks : Banks

abbrev pub opening : ℕ → Session → Banks → Opening
opening number s b = record { number = number; session = s; banks = b }

-- Opening always returns the opened session.
unfoldable pub open_of : Chip → List ℕ → Banks → Opening
open_of c m b = opening (open_number c m b) opened_session (cond (eqb (open_number c m b) done) (default_banks m) b)

-- what a call of the reader leaves: the number, the session and the banks, how many records, and the record buffer
pub record Outcome : Type 0 where
  pub number : ℕ
  pub state : ReaderState
  pub count : ℕ
  pub records : List ℕ

abbrev pub outcome : ℕ → ReaderState → ℕ → List ℕ → Outcome
outcome number w count records = record { number = number; state = w; count = count; records = records }

-- A call of the reader of a chip, on a map, a session with its banks, samples, and a lent record buffer.
unfoldable pub read_of : Chip → List ℕ → ReaderState → List ℕ → List ℕ → Outcome
read_of c m w samples records =
    cond (eqb (read_number c m w samples (length records)) done)
    (outcome done (run_of c m w samples) (record_count c w.session.port samples) (filled (records_of c m w samples) records))
    (outcome (read_number c m w samples (length records)) w 0 records)
