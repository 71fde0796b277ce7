-- RULES, "The library for hosts", the next record: samples are read up to and with the first that gives a record, or all of them.
use Rattle.std.specs.Prelude.{ℕ, ◌+◌, ◌*◌, cond, ◌&&◌, List, [], ◌∷◌, Result, Ok, Err, length, take, eqb, leb}
use Rattle.base_bits.specs.Tests.{unless}
use Rattle.base_sizes.specs.Sizes.{record_size}
use Rattle.base_numbers.specs.declared.Refusal.{Refusal}
use Rattle.base_numbers.specs.Numbers.{done, bad_session, bad_bank, bad_samples, short_records, bad_top, bad_words}
use Rattle.map_test.specs.MapTest.{map_number, top_fits}
use Rattle.base_chip.specs.declared.Chip.{Chip}
use Rattle.bus_session.specs.declared.Port.{Port}
use Rattle.bus_session.specs.State.{sound_session}
use Rattle.bus_session.specs.Step.{step_of}
use Rattle.bus_session.specs.Event.{event_of}
use Rattle.read_records.specs.Records.{records_in}
use Rattle.read_run.specs.Reading.{ReaderState, record_count}
use Rattle.read_refusals.specs.Numbers.{banks_fit, words_fit, samples_good}
use Rattle.read_calls.specs.Calls.{Outcome, outcome, read_of}
use Rattle.read_next.specs.declared.NextRecord.{NextRecord}

-- how many samples are read
unfoldable pub taken_of : Chip → Port → List ℕ → ℕ
taken_of c s [] = 0
taken_of c s (x ∷ xs) = cond (eqb (records_in (event_of c s x)) 0) (taken_of c (step_of c s x) xs + 1) 1

-- the samples that are read
abbrev pub first_of : Chip → Port → List ℕ → List ℕ
first_of c s xs = take (taken_of c s xs) xs

-- Document 01, "Numbers given back": the reader's numbers before 6. 5 looks at all samples handed in.
unfoldable pub samples_number : Chip → List ℕ → ReaderState → List ℕ → ℕ
samples_number c m w samples =
    unless (sound_session c w.session) bad_session
    (unless (eqb (map_number c m) done) (map_number c m)
    (unless (banks_fit m w.banks) bad_bank
    (unless (top_fits c m) bad_top
    (unless (words_fit m w.touched) bad_words
    (unless (leb (length samples) 65536 && samples_good samples) bad_samples
    done)))))

-- The number of the call: 6 looks only at the record of the samples that are read.
unfoldable pub next_number : Chip → List ℕ → ReaderState → List ℕ → ℕ → ℕ
next_number c m w samples room =
    unless (eqb (samples_number c m w samples) done) (samples_number c m w samples)
    (unless (leb (record_size * record_count c w.session.port (first_of c w.session.port samples)) room) short_records
    done)

-- what the call found: nothing where it is refused
abbrev pub found_by : Result NextRecord Refusal → NextRecord
found_by (Ok next) = next
found_by (Err refusal) = record { count = 0; taken = 0 }

-- what the call leaves: what a call of the reader leaves, and how many samples were read
pub record NextOutcome : Type 0 where
  pub outcome : Outcome
  pub taken : ℕ

abbrev pub next_outcome : Outcome → ℕ → NextOutcome
next_outcome o taken = record { outcome = o; taken = taken }

-- The call is `read` of just the samples that are read. A refusal leaves all as it was, and no sample is read.
unfoldable pub next_of : Chip → List ℕ → ReaderState → List ℕ → List ℕ → NextOutcome
next_of c m w samples records =
    cond (eqb (next_number c m w samples (length records)) done)
    (next_outcome (read_of c m w (first_of c w.session.port samples) records) (taken_of c w.session.port samples))
    (next_outcome (outcome (next_number c m w samples (length records)) w 0 records) 0)
