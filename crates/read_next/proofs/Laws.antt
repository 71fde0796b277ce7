-- The number of the call, and what it leaves.
use Prim.Native.Nat.{ℕ, zero, suc, ◌*◌, ◌/◌, ◌^◌, ◌<◌, ◌≤◌}
use mathlib.Core.Path.{◌≡◌, refl, sym, ◌∙◌, ap}
use mathlib.Core.Bool.{Bool, true, false, ◌&&◌}
use mathlib.Core.Logic.{◌≢◌}
use mathlib.Core.List.{List, [], ◌∷◌}
use native.Mathlib.Omega.{arith}
use lib.Dec.{eqb, leb}
use lib.ListN.{length, take}
use lib.Seq.{length-take-le}
use borrow.Author.Tests.{eq-eqb, ne_eqb, le-leb, lt-leb, leb-true}
use Rattle.base_bits.specs.Tests.{unless}
use Rattle.base_bits.proofs.Cases.{yes, no, and_left, and_right}
use Rattle.base_sizes.specs.Sizes.{record_size}
use Rattle.map_test.specs.MapTest.{map_number, top_fits}
use Rattle.base_chip.specs.declared.Chip.{Chip}
use Rattle.bus_session.specs.declared.Session.{Session}
use Rattle.bus_session.specs.State.{sound_port, sound_session}
use Rattle.bus_session.proofs.Laws.{port_sound}
use Rattle.reg_banks.specs.Banks.{banks, Mapped}
use Rattle.read_run.specs.Reading.{ReaderState, reader_state, record_count}
use Rattle.read_run.specs.Promises.{RunBefore, RunAfter}
use Rattle.read_run.proofs.Bound.{records_bound}
use Rattle.read_run.proofs.Laws.{records_size}
use Rattle.read_refusals.specs.Numbers.{banks_fit, words_fit, samples_good, read_number}
use Rattle.read_refusals.proofs.Laws.{ReadTests, read_tests, fits_mapped, bits_enough}
use Rattle.read_calls.specs.Calls.{Outcome, outcome}
use Rattle.read_calls.proofs.Laws.{read_done}
use Rattle.read_next.specs.NextRecord.{samples_number, next_number, next_outcome, next_of}
use Rattle.read_next.specs.Promises.{SearchAfter}
use Rattle.read_next.proofs.Search.{taken_within}

-- numbers that agree where a test holds
same_rest : (t : Bool) (n : ℕ) {p q : ℕ} → (t ≡ true → p ≡ q) → unless t n p ≡ unless t n q
same_rest true n e = e refl
same_rest false n e = refl

-- room for the records of any 65,536 samples
abbrev room_for_any : ℕ
room_for_any = record_size * 21846

-- with that room, the reader's number is that of the samples
pub room_enough : (c : Chip) (m : List ℕ) (w : ReaderState) (xs : List ℕ) → read_number c m w xs room_for_any ≡ samples_number c m w xs
unfolding read_number samples_number
room_enough c m w xs =
    same_rest (sound_session c w.session) 1
    (λ t. same_rest (eqb (map_number c m) 0) (map_number c m)
    (λ t. same_rest (banks_fit m w.banks) 4
    (λ t. same_rest (top_fits c m) 12
    (λ t. same_rest (words_fit m w.touched) 16
    (λ t. same_rest (leb (length xs) 65536 && samples_good xs) 5
    (λ t.
    let few : length xs ≤ 65536 = leb-true (length xs) 65536 (and_left (leb (length xs) 65536) (samples_good xs) t) in
    let fits : record_size * record_count c w.session.port xs ≤ room_for_any = omega (arith, records_bound c w.session.port xs) in
    rw (le-leb (record_size * record_count c w.session.port xs) room_for_any fits)))))))

good_take : (k : ℕ) (xs : List ℕ) → samples_good xs ≡ true → samples_good (take k xs) ≡ true
unfolding samples_good
good_take zero xs g = refl
good_take (suc k) [] g = refl
good_take (suc k) (x ∷ xs) g = rw (and_left (leb x 15) (samples_good xs) g) (good_take k xs (and_right (leb x 15) (samples_good xs) g))

module _ (c : Chip) (m : List ℕ) (s : Session) (act buf ws xs old : List ℕ) where
  abbrev given : ReaderState
  given = reader_state s act buf ws

  -- a call that is refused leaves all as it was
  next_refused : (n : ℕ) → n ≡ next_number c m given xs (length old) → n ≢ 0 → next_outcome (outcome n given 0 old) 0 ≡ next_of c m given xs old
  unfolding next_of
  next_refused n e z =
      no _ (ne_eqb (next_number c m given xs (length old)) 0 (λ q. z (e ∙ q))) (ap (λ (k : ℕ). next_outcome (outcome k given 0 old) 0) e)

  pub refused_before : (n : ℕ) → n ≡ samples_number c m given xs → n ≢ 0 → next_outcome (outcome n given 0 old) 0 ≡ next_of c m given xs old
  unfolding next_number
  refused_before n e z = next_refused n (no _ (ne_eqb (samples_number c m given xs) 0 (λ q. z (e ∙ q))) e) z

  module _ (n : ℕ) (number : n ≡ samples_number c m given xs) (zero_is : n ≡ 0) where
    -- each test up to that of the samples holds
    pub tested : ReadTests c m given xs room_for_any
    tested = read_tests c m given xs room_for_any (room_enough c m given xs ∙ sym number ∙ zero_is)

    few : length xs ≤ 65536
    few = leb-true (length xs) 65536 (and_left (leb (length xs) 65536) (samples_good xs) tested.samples)

    pub mapped : Mapped m (banks act buf)
    mapped = fits_mapped m (banks act buf) tested.fits

    -- the samples from the opened port on
    pub port_tested : sound_port c s.port ≡ true
    port_tested = port_sound c s tested.sound

    module _ {j count : ℕ} (f : SearchAfter c s.port xs j count) where
      within : j ≤ length xs
      within = omega (arith, f.samples, taken_within c s.port xs)

      pub short : length (take j xs) ≡ j
      short = length-take-le j xs within

      -- the samples that are read give the one record or none
      count_first : record_count c s.port (take j xs) ≡ count
      count_first = rw f.samples (sym f.records)

      pub size_fits : record_size * count < 2 ^ 64
      size_fits = omega (arith, count_first, records_bound c s.port (take j xs), short, within, few)

      -- only the room is left to test
      room_next : (r : ℕ) → r ≡ unless (leb (record_size * count) (length old)) 6 0 → r ≡ next_number c m given xs (length old)
      unfolding next_number
      room_next r q = yes _ (eq-eqb (samples_number c m given xs) 0 (sym number ∙ zero_is)) (rw (sym f.records) q)

      pub no_room : length old < record_size * count → next_outcome (outcome 6 given 0 old) 0 ≡ next_of c m given xs old
      no_room h = next_refused 6 (room_next 6 (no _ (lt-leb (record_size * count) (length old) h) refl)) (λ q. omega arith)

      module _ (room : record_size * count ≤ length old) where
        -- the reader would not refuse just the samples that are read
        not_refused : 0 ≡ read_number c m given (take j xs) (length old)
        unfolding read_number
        not_refused =
            let good : samples_good (take j xs) ≡ true = good_take j xs (and_right (leb (length xs) 65536) (samples_good xs) tested.samples) in
            let less : length (take j xs) ≤ 65536 = omega (arith, short, within, few) in
            let fits : record_size * record_count c s.port (take j xs) ≤ length old = omega (arith, count_first) in
            let samples : (leb (length (take j xs)) 65536 && samples_good (take j xs)) ≡ true = rw (le-leb (length (take j xs)) 65536 less) good in
            yes _ tested.sound
            (yes _ (eq-eqb (map_number c m) 0 tested.good_map)
            (yes _ tested.fits
            (yes _ tested.top
            (yes _ tested.words
            (yes _ samples
            (yes _ (le-leb (record_size * record_count c s.port (take j xs)) (length old) fits) refl))))))

        pub ready : RunBefore c true m given (take j xs) old
        ready = record {
          sound = tested.sound;
          few = omega (arith, short, within, few);
          mapped = λ p. mapped;
          bits = λ p. bits_enough m ws tested.words;
          room = λ p. omega (arith, records_size c m (take j xs) given, count_first);
        }

        pub next_done : {after : ReaderState} {size : ℕ} {new : List ℕ} → RunAfter c true m given (take j xs) old after size new
            → next_outcome (outcome 0 after (size / record_size) new) j ≡ next_of c m given xs old
        unfolding next_of
        next_done {after} {size} {new} ran =
            let number : next_number c m given xs (length old) ≡ 0 = sym (room_next 0 (yes _ (le-leb (record_size * count) (length old) room) refl)) in
            let read = read_done c m given (take j xs) old 0 not_refused refl after size new (ran.done refl) in
            yes _ (eq-eqb (next_number c m given xs (length old)) 0 number) (rw (sym f.samples) (ap (λ (o : Outcome). next_outcome o j) read))
