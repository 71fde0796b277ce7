-- A pass over samples, with records that are put or only counted.
use mathlib.Core.Path.{◌≡◌, subst}
use mathlib.Core.Bool.{Bool, true}
use mathlib.Core.List.{List}
use Prim.Native.Nat.{ℕ, ◌≤◌}
use lib.ListN.{length}
use Rattle.base_chip.specs.declared.Chip.{Chip}
use Rattle.bus_session.specs.declared.Port.{Port}
use Rattle.bus_session.specs.declared.Event.{Event}
use Rattle.bus_trace.specs.Path.{NextPath}
use Rattle.reg_banks.specs.Banks.{banks}
use Rattle.read_records.specs.declared.EventOutcome.{EventOutcome}
use Rattle.bus_session.proofs.Laws.{port_sound}
use Rattle.read_run.specs.Reading.{ReaderState, reader_state_of}
use Rattle.read_run.specs.Promises.{PassBefore, PassAfter, RunBefore, RunAfter}
use Rattle.read_run.proofs.Laws.{Reading, reading_begun, taking_next, again, ended}
use Rattle.read_run.proofs.Counting.{Counting, counting_begun, counted_next, size_fits, counting_ended}

-- i samples are passed, and records of `size` bytes: world w is reached, and the record buffer is new
pub record Running (c : Chip) (storing : Bool) (m xs : List ℕ) (w₀ w : ReaderState) (old new : List ℕ) (size i : ℕ) : Type 0 where
  pub counting : Counting c xs w₀.session.port w.session.port size i
  pub reading : storing ≡ true → Reading c m xs w₀ w old new size i

pub running_begun : {c : Chip} {storing : Bool} {m xs : List ℕ} {w : ReaderState} {old : List ℕ} → RunBefore c storing m w xs old
    → Running c storing m xs w w old old 0 0
running_begun {c} {storing} {m} {xs} {w} {old} r = record {
  counting = counting_begun c xs w.session.port (port_sound c w.session r.sound);
  reading = λ p. reading_begun c m xs w old (subst (λ (b : Bool). RunBefore c b m w xs old) p r);
}

module _ {c : Chip} {storing : Bool} {m xs : List ℕ} {w₀ : ReaderState} {s t : Port} {armed : Bool} {act buf ws old new : List ℕ} {size i j : ℕ} {e : Event}
    (k : Running c storing m xs w₀ (reader_state_of s armed act buf ws) old new size i) (n : NextPath c xs s i e t j) where
  pub passing : length xs ≤ 65536 → PassBefore c storing m (banks act buf) ws s.settings e new size
  passing few = record { fits = size_fits few (counted_next k.counting n); taking = λ p. taking_next (k.reading p) n }

  pub running_on : {act' buf' ws' new' : List ℕ} {took : EventOutcome} → PassAfter c storing m armed (banks act buf) ws s.settings e new size
      (banks act' buf') ws' new' took
      → Running c storing m xs w₀ (reader_state_of t took.armed act' buf' ws') old new' took.at j
  running_on a = record {
    counting = rw a.next_place (counted_next k.counting n);
    reading = λ p. again (k.reading p) n _ _ _ _ _ (a.taken p);
  }

pub running_ended : {c : Chip} {storing : Bool} {m xs : List ℕ} {w₀ w : ReaderState} {old new : List ℕ} {size i : ℕ}
    → Running c storing m xs w₀ w old new size i → length xs ≤ i
    → RunAfter c storing m w₀ xs old w size new
running_ended k h = record { record_size_each = counting_ended h k.counting; done = λ p. ended h (k.reading p) }
