-- The search for the next record: the samples passed give none, and with the definition of the rest they are the whole.
use Prim.Native.Nat.{ℕ, ◌+◌, ◌<◌, ◌≤◌}
use mathlib.Core.Path.{◌≡◌, refl, sym, ap, ◌∙◌}
use mathlib.Core.Bool.{Bool, true, false, cond}
use mathlib.Core.Logic.{◌≢◌}
use mathlib.Core.List.{List, [], ◌∷◌}
use native.Mathlib.Omega.{arith}
use native.Mathlib.Numerals.{add-one}
use lib.Dec.{eqb}
use lib.ListN.{length, get_or, drop, drop_of_length-le}
use lib.Seq.{drop-cons}
use borrow.Author.Tests.{ne_eqb}
use Rattle.base_chip.specs.declared.Chip.{Chip}
use Rattle.bus_session.specs.declared.Port.{Port}
use Rattle.bus_session.specs.declared.Event.{Event}
use Rattle.bus_session.specs.State.{sound_port}
use Rattle.bus_session.specs.Step.{step_of}
use Rattle.bus_session.specs.Event.{event_of}
use Rattle.bus_session.proofs.Laws.{sound_step}
use Rattle.bus_trace.specs.Path.{Quiet, still, more, NextPath, none, one}
use Rattle.read_records.specs.Records.{records_in}
use Rattle.read_run.specs.Reading.{record_count}
use Rattle.read_next.specs.NextRecord.{taken_of, first_of}
use Rattle.read_next.specs.Promises.{SearchAfter}

-- how many records the samples give that are read
abbrev count_of : Chip → Port → List ℕ → ℕ
count_of c s xs = record_count c s (first_of c s xs)

-- i samples are passed, and none gave a record
pub record Searching (c : Chip) (xs : List ℕ) (s₀ s : Port) (i : ℕ) : Type 0 where
  pub within : i ≤ length xs
  pub sound : sound_port c s ≡ true
  pub samples : taken_of c s₀ xs ≡ taken_of c s (drop i xs) + i
  pub records : count_of c s₀ xs ≡ count_of c s (drop i xs)

-- one sample, by whether it gives a record
taken_on : (c : Chip) (s : Port) (x : ℕ) (xs : List ℕ) → records_in (event_of c s x) ≡ 0 → taken_of c s (x ∷ xs) ≡ taken_of c (step_of c s x) xs + 1
unfolding taken_of
taken_on c s x xs z = rw z

taken_here : (c : Chip) (s : Port) (x : ℕ) (xs : List ℕ) → records_in (event_of c s x) ≢ 0 → taken_of c s (x ∷ xs) ≡ 1
unfolding taken_of
taken_here c s x xs z = rw (ne_eqb (records_in (event_of c s x)) 0 z)

count_on : (c : Chip) (s : Port) (x : ℕ) (xs : List ℕ) → records_in (event_of c s x) ≡ 0 → count_of c s (x ∷ xs) ≡ count_of c (step_of c s x) xs
unfolding record_count
count_on c s x xs z = rw (taken_on c s x xs z, add-one) (omega (arith, z))

count_here : (c : Chip) (s : Port) (x : ℕ) (xs : List ℕ) → records_in (event_of c s x) ≢ 0 → count_of c s (x ∷ xs) ≡ records_in (event_of c s x)
unfolding record_count
count_here c s x xs z = rw (taken_here c s x xs z) (omega arith)

module _ {c : Chip} {xs : List ℕ} {s₀ : Port} where
  pub search_begun : sound_port c s₀ ≡ true → Searching c xs s₀ s₀ 0
  search_begun f = record { within = omega arith; sound = f; samples = omega arith; records = refl }

  -- one sample without a record
  passed : {s : Port} {i : ℕ} → Searching c xs s₀ s i → i < length xs → records_in (event_of c s (get_or xs i 0)) ≡ 0
      → Searching c xs s₀ (step_of c s (get_or xs i 0)) (i + 1)
  passed {s} {i} k h z =
      let next : drop i xs ≡ get_or xs i 0 ∷ drop (i + 1) xs = rw add-one (drop-cons xs i 0 h) in
      record {
        within = omega arith;
        sound = sound_step c s (get_or xs i 0) k.sound;
        samples = omega (arith, k.samples, ap (taken_of c s) next, taken_on c s (get_or xs i 0) (drop (i + 1) xs) z);
        records = k.records ∙ ap (count_of c s) next ∙ count_on c s (get_or xs i 0) (drop (i + 1) xs) z;
      }

  quiet_passed : {s : Port} {i : ℕ} {t : Port} {j : ℕ} → Searching c xs s₀ s i → Quiet c xs s i t j → Searching c xs s₀ t j
  quiet_passed k still = k
  quiet_passed k (more q h e) = passed (quiet_passed k q) h (ap records_in e)

  -- samples up to an event without a record
  pub search_on : {s t : Port} {i j : ℕ} {e : Event} → Searching c xs s₀ s i → NextPath c xs s i e t j → records_in e ≡ 0 → Searching c xs s₀ t j
  search_on k (none q) z = quiet_passed k q
  search_on k (one q h) z = passed (quiet_passed k q) h z

  -- the event gives one
  pub found : {s t : Port} {i j : ℕ} {e : Event} → Searching c xs s₀ s i → NextPath c xs s i e t j → (n : ℕ) → n ≡ records_in e → n ≢ 0 → SearchAfter c s₀ xs j n
  found k (none q) n given z = absurd (z given)
  found k (one {t} {j} q h) n given z =
      let next : drop j xs ≡ get_or xs j 0 ∷ drop (j + 1) xs = rw add-one (drop-cons xs j 0 h) in
      let here = quiet_passed k q in
      let some : records_in (event_of c t (get_or xs j 0)) ≢ 0 = λ q. z (given ∙ q) in
      record {
        samples = omega (arith, here.samples, ap (taken_of c t) next, taken_here c t (get_or xs j 0) (drop (j + 1) xs) some);
        records = given ∙ sym (here.records ∙ ap (count_of c t) next ∙ count_here c t (get_or xs j 0) (drop (j + 1) xs) some);
      }

  -- all samples are passed
  pub none_found : {s : Port} {i : ℕ} → Searching c xs s₀ s i → length xs ≤ i → SearchAfter c s₀ xs i 0
  unfolding taken_of record_count
  none_found {s} {i} k h =
      let end : drop i xs ≡ [] = drop_of_length-le xs h in
      record { samples = omega (arith, k.samples, ap (taken_of c s) end); records = sym (k.records ∙ ap (count_of c s) end) }

-- no more samples are read than there are
pub taken_within : (c : Chip) (s : Port) (xs : List ℕ) → taken_of c s xs ≤ length xs
unfolding taken_of
taken_within c s [] = omega arith
taken_within c s (x ∷ xs) = go (eqb (records_in (event_of c s x)) 0) (taken_within c (step_of c s x) xs)
  where
    go : (z : Bool) → taken_of c (step_of c s x) xs ≤ length xs → cond z (taken_of c (step_of c s x) xs + 1) 1 ≤ length (x ∷ xs)
    go true h = omega (arith, h)
    go false h = omega arith
