-- A list of calls is one run of the done calls' samples: a refused call leaves all as it was.
use Prim.Native.Nat.{ℕ, ◌+◌}
use mathlib.Core.Path.{◌≡◌, refl, sym, ap, ◌∙◌}
use mathlib.Core.Bool.{Bool, true, false, cond}
use mathlib.Core.List.{List, [], ◌∷◌, ◌++◌, append_assoc}
use native.Mathlib.Nat.{add_assoc, zero-add}
use lib.Dec.{eqb}
use lib.ListN.{length}
use Rattle.base_chip.specs.declared.Chip.{Chip}
use Rattle.bus_session.specs.Step.{step_of}
use Rattle.bus_session.specs.Event.{event_of}
use Rattle.read_records.specs.Records.{record_of, records_in}
use Rattle.read_run.specs.Reading.{ReaderState, reader_state_after, run_of, records_of, record_count}
use Rattle.read_refusals.specs.Numbers.{read_number}
use Rattle.read_calls.specs.Calls.{read_of}
use Rattle.guarantees.specs.Calls.{Call, outcome_of, is_done, after_calls, joined}
use Rattle.guarantees.specs.Touched.{recorded_by}

pub run_append : (c : Chip) (m : List ℕ) (w : ReaderState) (xs ys : List ℕ) → run_of c m w (xs ++ ys) ≡ run_of c m (run_of c m w xs) ys
unfolding run_of
run_append c m w [] ys = refl
run_append c m w (x ∷ xs) ys = run_append c m (reader_state_after c m w x) xs ys

pub records_append : (c : Chip) (m : List ℕ) (w : ReaderState) (xs ys : List ℕ)
    → records_of c m w (xs ++ ys) ≡ records_of c m w xs ++ records_of c m (run_of c m w xs) ys
unfolding records_of run_of
records_append c m w [] ys = refl
records_append c m w (x ∷ xs) ys =
    rw (records_append c m (reader_state_after c m w x) xs ys)
    (sym (append_assoc (record_of c m w.banks w.session.port.settings (event_of c w.session.port x)) (records_of c m (reader_state_after c m w x) xs) _))

pub count_append : (c : Chip) (m : List ℕ) (w : ReaderState) (xs ys : List ℕ)
    → record_count c w.session.port (xs ++ ys) ≡ record_count c w.session.port xs + record_count c (run_of c m w xs).session.port ys
unfolding record_count run_of
count_append c m w [] ys = sym (zero-add _)
count_append c m w (x ∷ xs) ys =
    rw (count_append c m (reader_state_after c m w x) xs ys)
    (sym (add_assoc (records_in (event_of c w.session.port x)) (record_count c (step_of c w.session.port x) xs) _))

-- the samples that a call reads: its own if it is done
abbrev samples_read : Chip → List ℕ → ReaderState → Call → List ℕ
samples_read c m w call = cond (is_done c m w call) call.samples []

call_run : (c : Chip) (m : List ℕ) (w : ReaderState) (call : Call) → (outcome_of c m w call).state ≡ run_of c m w (samples_read c m w call)
unfolding read_of run_of
call_run c m w call = by_number (eqb (read_number c m w call.samples (length call.records)) 0) refl
  where
    by_number :
        (done : Bool) → eqb (read_number c m w call.samples (length call.records)) 0 ≡ done
        → (outcome_of c m w call).state ≡ run_of c m w (samples_read c m w call)
    by_number true e = rw e
    by_number false e = rw (e, e)

pub calls_run : (c : Chip) (m : List ℕ) (w : ReaderState) (calls : List Call) → after_calls c m w calls ≡ run_of c m w (joined c m w calls)
unfolding after_calls joined run_of
calls_run c m w [] = refl
calls_run c m w (call ∷ more) =
    calls_run c m (outcome_of c m w call).state more
    ∙ ap (λ (v : ReaderState). run_of c m v (joined c m (outcome_of c m w call).state more)) (call_run c m w call)
    ∙ sym (run_append c m w (samples_read c m w call) (joined c m (outcome_of c m w call).state more))

records_taken : (c : Chip) (m : List ℕ) (w : ReaderState) (done : Bool) (xs : List ℕ) → cond done (records_of c m w xs) [] ≡ records_of c m w (cond done xs [])
unfolding records_of
records_taken c m w true xs = refl
records_taken c m w false xs = refl

pub calls_records : (c : Chip) (m : List ℕ) (w : ReaderState) (calls : List Call) → recorded_by c m w calls ≡ records_of c m w (joined c m w calls)
unfolding recorded_by joined records_of
calls_records c m w [] = refl
calls_records c m w (call ∷ more) =
    let later = joined c m (outcome_of c m w call).state more in
    ap (λ (r : List ℕ). cond (is_done c m w call) (records_of c m w call.samples) [] ++ r) (calls_records c m (outcome_of c m w call).state more)
    ∙ ap (λ (r : List ℕ). r ++ records_of c m (outcome_of c m w call).state later) (records_taken c m w (is_done c m w call) call.samples)
    ∙ ap (λ (v : ReaderState). records_of c m w (samples_read c m w call) ++ records_of c m v later) (call_run c m w call)
    ∙ sym (records_append c m w (samples_read c m w call) later)
