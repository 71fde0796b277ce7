-- Reading samples one at a time: what is done, with the definition of what is left, is the whole.
use mathlib.Core.Path.{◌≡◌, refl, sym, ◌∙◌, ap, subst}
use mathlib.Core.Bool.{Bool, true}
use mathlib.Core.List.{List, [], ◌∷◌, ◌++◌}
use Prim.Native.Nat.{ℕ, ◌+◌, ◌*◌, ◌<◌, ◌≤◌}
use native.Mathlib.Omega.{arith}
use native.Mathlib.Numerals.{add-one}
use native.Mathlib.Nat.{zero-add, add-zero}
use lib.ListN.{length, get_or, drop, drop_of_length-le, length-append}
use lib.Seq.{drop-cons, sets, sets-eq, length-sets}
use Rattle.base_bits.proofs.Buffer.{sets_append}
use Rattle.base_sizes.specs.Sizes.{record_size}
use Rattle.bus_settings.specs.declared.Settings.{Settings}
use Rattle.base_chip.specs.declared.Chip.{Chip}
use Rattle.map_format.specs.Format.{count_of}
use Rattle.bus_session.specs.declared.Port.{Port}
use Rattle.bus_session.specs.declared.Event.{Event}
use Rattle.bus_session.specs.Step.{step_of}
use Rattle.bus_session.specs.Event.{event_of}
use Rattle.bus_trace.specs.Path.{Quiet, still, more, NextPath, none, one}
use Rattle.bus_trace.proofs.Paths.{settings_quiet}
use Rattle.reg_banks.specs.Banks.{banks, Mapped}
use Rattle.read_records.specs.BanksAfter.{banks_after, armed_after, touched_after}
use Rattle.read_records.specs.Records.{record_of}
use Rattle.read_records.specs.declared.EventOutcome.{EventOutcome}
use Rattle.read_records.specs.Promises.{EventBefore, EventAfter}
use Rattle.read_records.proofs.Laws.{mapped_after, length_after, record_size_lem}
use Rattle.read_run.specs.Reading.{ReaderState, reader_state_of, event_at, reader_state_after, run_of, records_of, record_count}
use Rattle.read_run.specs.Promises.{RunBefore, RunDone}

-- the record of sample x
abbrev record_at : Chip → List ℕ → ReaderState → ℕ → List ℕ
record_at c m w x = record_of c m w.banks w.session.port.settings (event_at c w x)

-- i samples are read from world w₀, and the records of n bytes put: w is reached, and the record buffer is new
pub record Reading (c : Chip) (m xs : List ℕ) (w₀ w : ReaderState) (old new : List ℕ) (n i : ℕ) : Type 0 where
  pub within : i ≤ length xs
  pub mapped : Mapped m w.banks
  pub bits : count_of m ≤ 64 * length w.touched
  pub same : length new ≡ length old
  pub size : n + length (records_of c m w (drop i xs)) ≡ length (records_of c m w₀ xs)
  pub room : length (records_of c m w₀ xs) ≤ length old
  pub rest : sets new n (records_of c m w (drop i xs)) ≡ sets old 0 (records_of c m w₀ xs)
  pub after : run_of c m w (drop i xs) ≡ run_of c m w₀ xs

next_records : (c : Chip) (m xs : List ℕ) (w : ReaderState) (i : ℕ) → i < length xs
    → records_of c m w (drop i xs) ≡ record_at c m w (get_or xs i 0) ++ records_of c m (reader_state_after c m w (get_or xs i 0)) (drop (i + 1) xs)
unfolding records_of
next_records c m xs w i h = rw (add-one, drop-cons xs i 0)

next_run : (c : Chip) (m xs : List ℕ) (w : ReaderState) (i : ℕ) → i < length xs
    → run_of c m w (drop i xs) ≡ run_of c m (reader_state_after c m w (get_or xs i 0)) (drop (i + 1) xs)
unfolding run_of
next_run c m xs w i h = rw (add-one, drop-cons xs i 0)

pub reading_begun : (c : Chip) (m xs : List ℕ) (w : ReaderState) (old : List ℕ) → RunBefore c true m w xs old → Reading c m xs w w old old 0 0
reading_begun c m xs w old r = record {
  within = omega arith;
  mapped = r.mapped refl;
  bits = r.bits refl;
  same = refl;
  size = omega arith;
  room = r.room refl;
  rest = refl;
  after = refl;
}

module _ {c : Chip} {m xs : List ℕ} {w₀ w : ReaderState} {old new : List ℕ} {n i : ℕ} (h : i < length xs) (k : Reading c m xs w₀ w old new n i) where
  -- the next record has room
  pub taking : EventBefore c m w.banks w.touched w.session.port.settings (event_at c w (get_or xs i 0)) new n
  taking = record { mapped = k.mapped; bits = k.bits; room = omega (arith, simp length-append at (ap length (next_records c m xs w i h)), k) }

  pub turned : Reading c m xs w₀ (reader_state_after c m w (get_or xs i 0)) old (sets new n (record_at c m w (get_or xs i 0)))
      (n + length (record_at c m w (get_or xs i 0))) (i + 1)
  turned = record {
    within = omega arith;
    mapped = mapped_after c m w.session.armed w.banks (event_at c w (get_or xs i 0)) k.mapped;
    bits = rw (length_after c m w.touched w.banks (event_at c w (get_or xs i 0))) k.bits;
    same = length-sets new n (record_at c m w (get_or xs i 0)) ∙ k.same;
    size = omega (arith, simp length-append at (ap length (next_records c m xs w i h)), k);
    room = k.room;
    rest = sym (sets_append (record_at c m w (get_or xs i 0)) _ new n) ∙ (rw (next_records c m xs w i h) at k.rest);
    after = sym (next_run c m xs w i h) ∙ k.after;
  }

pub ended : {c : Chip} {m xs : List ℕ} {w₀ w : ReaderState} {old new : List ℕ} {n i : ℕ} → length xs ≤ i → Reading c m xs w₀ w old new n i
    → RunDone c m w₀ xs old w n new
unfolding records_of run_of
ended {c} {m} {xs} {w₀} {w} {old} {new} {n} {i} h k =
    let e : records_of c m w (drop i xs) ≡ [] = rw (drop_of_length-le xs h) in
    let a : run_of c m w (drop i xs) ≡ w = rw (drop_of_length-le xs h) in
    record {
      next_state = sym a ∙ k.after;
      size_is = omega (arith, ap length e, k);
      records_after = (rw e at k.rest) ∙ sets-eq (records_of c m w₀ xs) old 0 (omega (arith, k)) ∙ rw zero-add;
    }

-- the same turn, by what the calls in it give
again_one : {c : Chip} {m xs : List ℕ} {w₀ : ReaderState} {s : Port} {armed : Bool} {act buf ws old new : List ℕ} {n i : ℕ} → i < length xs
    → Reading c m xs w₀ (reader_state_of s armed act buf ws) old new n i
    → (e : Event) (act' buf' ws' new' : List ℕ) (took : EventOutcome) (s' : Port) → e ≡ event_of c s (get_or xs i 0)
    → EventAfter c m armed (banks act buf) ws s.settings e new n (banks act' buf') ws' new' took → s' ≡ step_of c s (get_or xs i 0)
    → Reading c m xs w₀ (reader_state_of s' took.armed act' buf' ws') old new' took.at (i + 1)
again_one {c} {m} {xs} {w₀} {s} {armed} {act} {buf} {ws} {old} {new} {n} {i} h k e act' buf' ws' new' took s' ee t es =
    let eb : banks act' buf' ≡ banks_after c m armed (banks act buf) (event_of c s (get_or xs i 0)) = t.next_banks ∙ rw ee in
    let et : ws' ≡ touched_after c m ws (banks act buf) (event_of c s (get_or xs i 0)) = t.words_after ∙ rw ee in
    let ek : took.armed ≡ armed_after c m armed (banks act buf) (event_of c s (get_or xs i 0)) = t.next_armed ∙ rw ee in
    let ew : reader_state_of s' took.armed act' buf' ws' ≡ reader_state_after c m (reader_state_of s armed act buf ws) (get_or xs i 0) =
    λ i. record { session = record { port = es i; armed = ek i }; banks = eb i; touched = et i } in
    let en : took.at ≡ n + length (record_at c m (reader_state_of s armed act buf ws) (get_or xs i 0)) = t.next_place ∙ rw ee in
    let er : new' ≡ sets new n (record_at c m (reader_state_of s armed act buf ws) (get_or xs i 0)) = t.records_after ∙ rw ee in
    rw (ew, en, er) (turned h k)

-- samples that give no event
pub still_reading : {c : Chip} {m xs : List ℕ} {w₀ : ReaderState} {s : Port} {armed : Bool} {act buf ws old new : List ℕ} {n i : ℕ} {t : Port} {j : ℕ}
    → Reading c m xs w₀ (reader_state_of s armed act buf ws) old new n i → Quiet c xs s i t j → Reading c m xs w₀ (reader_state_of t armed act buf ws) old new n j
unfolding banks_after armed_after touched_after record_of
still_reading k still = k
still_reading {n = n} k (more q h e) = rw (e, add-zero n) at (turned h (still_reading k q))

-- what the next event asks
pub taking_next : {c : Chip} {m xs : List ℕ} {w₀ : ReaderState} {s t : Port} {armed : Bool} {act buf ws old new : List ℕ} {n i j : ℕ} {e : Event}
    → Reading c m xs w₀ (reader_state_of s armed act buf ws) old new n i → NextPath c xs s i e t j → EventBefore c m (banks act buf) ws s.settings e new n
unfolding record_of
taking_next k (none q) = record { mapped = k.mapped; bits = k.bits; room = omega (arith, k) }
taking_next {c} {m} {act = act} {buf} {ws} {new = new} {n} {e = e} k (one q h) =
    subst (λ (t : Settings). EventBefore c m (banks act buf) ws t e new n) (settings_quiet q) (taking h (still_reading k q))

-- samples up to an event, by what the calls in a turn give
pub again : {c : Chip} {m xs : List ℕ} {w₀ : ReaderState} {s t : Port} {armed : Bool} {act buf ws old new : List ℕ} {n i j : ℕ} {e : Event}
    → Reading c m xs w₀ (reader_state_of s armed act buf ws) old new n i → NextPath c xs s i e t j → (act' buf' ws' new' : List ℕ) (took : EventOutcome)
    → EventAfter c m armed (banks act buf) ws s.settings e new n (banks act' buf') ws' new' took → Reading c m xs w₀
    (reader_state_of t took.armed act' buf' ws') old new' took.at j
unfolding banks_after armed_after touched_after record_of
again {c} {m} {t = t} {armed} {act} {buf} {ws} {new = new} {n} k (none q) act' buf' ws' new' took a =
    let ew : reader_state_of t took.armed act' buf' ws' ≡ reader_state_of t armed act buf ws =
    λ i. record { session = record { port = t; armed = a.next_armed i }; banks = a.next_banks i; touched = a.words_after i } in
    let en : took.at ≡ n = a.next_place ∙ add-zero n in
    rw (ew, en, a.records_after) (still_reading k q)
again {c} {m} {armed = armed} {act} {buf} {ws} {new = new} {n} {e = e} k (one q h) act' buf' ws' new' took a =
    again_one h (still_reading k q) e act' buf' ws' new' took _ refl
    (subst (λ (t : Settings). EventAfter c m armed (banks act buf) ws t e new n (banks act' buf') ws' new' took) (sym (settings_quiet q)) a) refl

-- the size of a record for each
pub records_size : (c : Chip) (m xs : List ℕ) (w : ReaderState) → length (records_of c m w xs) ≡ record_size * record_count c w.session.port xs
unfolding records_of record_count
records_size c m [] w = refl
records_size c m (x ∷ xs) w =
    rw length-append (omega (arith, record_size_lem c m w.banks w.session.port.settings (event_at c w x), records_size c m xs (reader_state_after c m w x)))
