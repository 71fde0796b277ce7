-- RULES, "The library for hosts": the reader's calls as a host makes them, with the session as bytes.
use Rattle.std.specs.Prelude.{ℕ, cond, List}
use Rattle.base_numbers.specs.Numbers.{bad_session}
use Rattle.base_chip.specs.declared.Chip.{Chip}
use Rattle.bus_session_bytes.specs.Layout.{session_bytes, are_session, session_of}
use Rattle.reg_banks.specs.Banks.{Banks}
use Rattle.read_run.specs.Reading.{ReaderState}
use Rattle.read_calls.specs.Calls as reader
use Rattle.read_next.specs.NextRecord as nextrecord

-- what a call of opening leaves: the number, the session's bytes, and the banks
pub record HostOpening : Type 0 where
  pub number : ℕ
  pub session : List ℕ
  pub banks : Banks

abbrev pub host_opening : ℕ → List ℕ → Banks → HostOpening
host_opening number s b = record { number = number; session = s; banks = b }

-- Opening for a chip, the opened session as bytes.
abbrev pub host_opening_of : reader.Opening → HostOpening
host_opening_of o = host_opening o.number (session_bytes o.session) o.banks

unfoldable pub host_open_of : Chip → List ℕ → Banks → HostOpening
host_open_of c m b = host_opening_of (reader.open_of c m b)

-- what a call of the reader leaves: the number, the session's bytes, the banks, the words of touched registers, how many records, and the
-- record buffer
pub record HostOutcome : Type 0 where
  pub number : ℕ
  pub session : List ℕ
  pub banks : Banks
  pub touched : List ℕ
  pub count : ℕ
  pub records : List ℕ

abbrev pub host_outcome : ℕ → List ℕ → Banks → List ℕ → ℕ → List ℕ → HostOutcome
host_outcome number s b ws count records = record { number = number; session = s; banks = b; touched = ws; count = count; records = records }

-- the same as the reader leaves, the next session as bytes
abbrev pub host_outcome_of : reader.Outcome → HostOutcome
host_outcome_of o = host_outcome o.number (session_bytes o.state.session) o.state.banks o.state.touched o.count o.records

-- the session of bytes, with banks and words
abbrev pub host_state : List ℕ → Banks → List ℕ → ReaderState
host_state s b ws = record { session = session_of s; banks = b; touched = ws }

-- A call of the reader. Bytes that are no session are refused with 1, and all is as given.
unfoldable pub host_read_of : Chip → List ℕ → List ℕ → Banks → List ℕ → List ℕ → List ℕ → HostOutcome
host_read_of c m s b ws samples records =
    cond (are_session s) (host_outcome_of (reader.read_of c m (host_state s b ws) samples records)) (host_outcome bad_session s b ws 0 records)

-- what a call for the next record leaves: the same, and how many samples were read
pub record HostNext : Type 0 where
  pub host_outcome : HostOutcome
  pub taken : ℕ

abbrev pub host_next : HostOutcome → ℕ → HostNext
host_next o taken = record { host_outcome = o; taken = taken }

abbrev pub host_next_bytes : nextrecord.NextOutcome → HostNext
host_next_bytes n = host_next (host_outcome_of n.outcome) n.taken

-- A call for the next record. Bytes that are no session are refused as by the reader.
unfoldable pub host_next_of : Chip → List ℕ → List ℕ → Banks → List ℕ → List ℕ → List ℕ → HostNext
host_next_of c m s b ws samples records =
    cond (are_session s) (host_next_bytes (nextrecord.next_of c m (host_state s b ws) samples records)) (host_next (host_outcome bad_session s b ws 0 records) 0)
