-- The chain of refusals: what a number that is given, or not given, says of the tests before it.
use mathlib.Core.Path.{◌≡◌, refl, sym, ◌∙◌}
use mathlib.Core.Bool.{Bool, true, false, ◌&&◌, false≢true}
use mathlib.Core.Logic.{◌≢◌}
use mathlib.Core.List.{List}
use Prim.Native.Nat.{ℕ, ◌+◌, ◌*◌, ◌/◌, ◌<◌, ◌≤◌}
use native.Mathlib.Omega.{arith}
use lib.Dec.{eqb, leb}
use lib.ListN.{length}
use borrow.Author.Tests.{eq-eqb, ne_eqb, eqb-true, lt-leb, le-leb}
use Rattle.base_bits.specs.Tests.{unless}
use Rattle.base_bits.proofs.Cases.{yes, no, and_left, and_right}
use Rattle.base_sizes.specs.Sizes.{record_size}
use Rattle.base_numbers.specs.declared.Refusal.{Refusal}
use Rattle.base_numbers.specs.Numbers.{refusal_number}
use Rattle.base_numbers.proofs.Numbers.{some_number}
use Rattle.map_format.specs.Format.{count_of}
use Rattle.base_chip.specs.declared.Chip.{Chip}
use Rattle.map_test.specs.MapTest.{map_number, top_fits}
use Rattle.map_test.proofs.Laws.{map_number_most}
use Rattle.bus_session.specs.State.{sound_session}
use Rattle.reg_banks.specs.Banks.{Banks, Mapped}
use Rattle.read_run.specs.Reading.{ReaderState, record_count}
use Rattle.read_refusals.specs.Numbers.{banks_fit, open_number, words_fit, samples_good, read_number}

-- no refusal has the number of a call that is done
pub some_refusal : (e : Refusal) → refusal_number e ≢ 0
some_refusal e = λ q. omega (arith, some_number e)

-- a test that refuses with a number, and the tests after it
passed : (t : Bool) (n next : ℕ) → n ≢ 0 → unless t n next ≡ 0 → (t ≡ true) × (next ≡ 0)
passed true n next z e = (refl, e)
passed false n next z e = absurd (z e)

-- the map's number k
passed_map : (k next : ℕ) → unless (eqb k 0) k next ≡ 0 → (k ≡ 0) × (next ≡ 0)
passed_map k next e = go (eqb k 0) refl e
  where
    go : (z : Bool) → eqb k 0 ≡ z → unless z k next ≡ 0 → (k ≡ 0) × (next ≡ 0)
    go true t e = (eqb-true k 0 t, e)
    go false t e = absurd (false≢true (sym t ∙ eq-eqb k 0 e))

-- refused before the samples are looked at, whatever comes after
refused_first : (k : ℕ) (fits top : Bool) (next : ℕ) → unless (eqb k 0) k (unless fits 4 (unless top 12 0)) ≢ 0
    → unless (eqb k 0) k (unless fits 4 (unless top 12 0)) ≡ unless (eqb k 0) k (unless fits 4 (unless top 12 next))
refused_first k fits top next n = go (eqb k 0) fits top n
  where
    go : (z f t : Bool) → unless z k (unless f 4 (unless t 12 0)) ≢ 0
        → unless z k (unless f 4 (unless t 12 0)) ≡ unless z k (unless f 4 (unless t 12 next))
    go true true true n = absurd (n refl)
    go true true false n = refl
    go true false t n = refl
    go false f t n = refl

-- what number 0 of opening says: each of its tests holds
pub record OpenTests (c : Chip) (m : List ℕ) (b : Banks) : Type 0 where
  pub good_map : map_number c m ≡ 0
  pub fits : banks_fit m b ≡ true
  pub top : top_fits c m ≡ true

pub opens : (c : Chip) (m : List ℕ) (b : Banks) → open_number c m b ≡ 0 → OpenTests c m b
unfolding open_number
opens c m b e =
    let two = passed_map (map_number c m) _ e in
    let four = passed (banks_fit m b) 4 _ (λ q. omega arith) two.1 in
    let twelve = passed (top_fits c m) 12 0 (λ q. omega arith) four.1 in
    record { good_map = two.0; fits = four.0; top = twelve.0 }

pub fits_mapped : (m : List ℕ) (b : Banks) → banks_fit m b ≡ true → Mapped m b
fits_mapped m b f =
    let active = eqb (length b.active) (count_of m) in
    let buffer = eqb (length b.buffer) (count_of m) in
    record {
      active_size = eqb-true (length b.active) (count_of m) (and_left active buffer f);
      buffer_size = eqb-true (length b.buffer) (count_of m) (and_right active buffer f);
    }

-- each register has its bit
pub bits_enough : (m words : List ℕ) → words_fit m words ≡ true → count_of m ≤ 64 * length words
bits_enough m words f = omega (arith, eqb-true (length words) ((count_of m + 63) / 64) f)

-- a bound of the numbers: of the first, and of those after it where its test holds
bounded : {most : ℕ} (t : Bool) {n next : ℕ} → n ≤ most → (t ≡ true → next ≤ most) → unless t n next ≤ most
bounded true h rest = rest refl
bounded false h rest = h

-- where the top is that of the map, number 12 is not given
module _ (c : Chip) (m : List ℕ) (top : map_number c m ≡ 0 → top_fits c m ≡ true) where
  pub open_number_most : (b : Banks) → open_number c m b ≤ 4
  unfolding open_number
  open_number_most b =
      bounded (eqb (map_number c m) 0) (omega (arith, map_number_most c m))
      (λ t. bounded (banks_fit m b) (omega arith)
      (λ u. rw (top (eqb-true (map_number c m) 0 t)) (omega arith)))

  -- where the room suffices, neither is 6, and where the words are as many as the map needs, neither is 16
  pub read_number_most : (w : ReaderState) (xs : List ℕ) (room : ℕ) → (map_number c m ≡ 0 → words_fit m w.touched ≡ true)
      → record_size * record_count c w.session.port xs ≤ room → read_number c m w xs room ≤ 5
  unfolding read_number
  read_number_most w xs room words enough =
      bounded (sound_session c w.session) (omega arith)
      (λ s. bounded (eqb (map_number c m) 0) (omega (arith, map_number_most c m))
      (λ t. bounded (banks_fit m w.banks) (omega arith)
      (λ u. rw (top (eqb-true (map_number c m) 0 t), words (eqb-true (map_number c m) 0 t))
      (bounded (leb (length xs) 65536 && samples_good xs) (omega arith)
      (λ v. rw (le-leb (record_size * record_count c w.session.port xs) room enough) (omega arith))))))

-- what number 0 says: each test of the reader holds
pub record ReadTests (c : Chip) (m : List ℕ) (w : ReaderState) (xs : List ℕ) (room : ℕ) : Type 0 where
  pub sound : sound_session c w.session ≡ true
  pub good_map : map_number c m ≡ 0
  pub fits : banks_fit m w.banks ≡ true
  pub top : top_fits c m ≡ true
  pub words : words_fit m w.touched ≡ true
  pub samples : (leb (length xs) 65536 && samples_good xs) ≡ true
  pub enough : leb (record_size * record_count c w.session.port xs) room ≡ true

pub read_tests : (c : Chip) (m : List ℕ) (w : ReaderState) (xs : List ℕ) (room : ℕ) → read_number c m w xs room ≡ 0 → ReadTests c m w xs room
unfolding read_number
read_tests c m w xs room e =
    let one = passed (sound_session c w.session) 1 _ (λ q. omega arith) e in
    let two = passed_map (map_number c m) _ one.1 in
    let four = passed (banks_fit m w.banks) 4 _ (λ q. omega arith) two.1 in
    let twelve = passed (top_fits c m) 12 _ (λ q. omega arith) four.1 in
    let sixteen = passed (words_fit m w.touched) 16 _ (λ q. omega arith) twelve.1 in
    let five = passed (leb (length xs) 65536 && samples_good xs) 5 _ (λ q. omega arith) sixteen.1 in
    let six = passed (leb (record_size * record_count c w.session.port xs) room) 6 _ (λ q. omega arith) five.1 in
    record { sound = one.0; good_map = two.0; fits = four.0; top = twelve.0; words = sixteen.0; samples = five.0; enough = six.0 }

module _ (c : Chip) (m : List ℕ) (b : Banks) (n : ℕ) (given : n ≡ map_number c m) where
  -- the map is refused
  pub map_refused : n ≢ 0 → n ≡ open_number c m b
  unfolding open_number
  map_refused z = no _ (ne_eqb (map_number c m) 0 (λ q. z (given ∙ q))) given

  -- the map is good, and only the banks and the top are left to test
  pub banks_next : n ≡ 0 → (k r : ℕ) → k ≡ count_of m
      → r ≡ unless (eqb (length b.active) k && eqb (length b.buffer) k) 4 (unless (top_fits c m) 12 0) → r ≡ open_number c m b
  unfolding open_number
  banks_next z k r e q = yes _ (eq-eqb (map_number c m) 0 (sym given ∙ z)) (rw e at q)

module _ (c : Chip) (m : List ℕ) (w : ReaderState) (xs : List ℕ) (room : ℕ) where
  pub unsound : sound_session c w.session ≡ false → 1 ≡ read_number c m w xs room
  unfolding read_number
  unsound e = no _ e refl

  module _ (sound : sound_session c w.session ≡ true) where
    -- opening would be refused too
    pub not_opened : open_number c m w.banks ≢ 0 → open_number c m w.banks ≡ read_number c m w xs room
    unfolding read_number open_number
    not_opened n = yes _ sound (refused_first (map_number c m) (banks_fit m w.banks) (top_fits c m) _ n)

    -- the map is refused
    pub map_first : (n : ℕ) → n ≡ map_number c m → n ≢ 0 → n ≡ read_number c m w xs room
    map_first n given z =
        let e = map_refused c m w.banks n given z in
        e ∙ not_opened (λ q. z (e ∙ q))

    module _ (fits : open_number c m w.banks ≡ 0) (enough-words : Bool) (looked-at : enough-words ≡ words_fit m w.touched) where
      -- only the words, the samples and the room are left to test
      words_next : (n : ℕ)
          → n ≡ unless (words_fit m w.touched) 16
          (unless (leb (length xs) 65536 && samples_good xs) 5 (unless (leb (record_size * record_count c w.session.port xs) room) 6 0))
          → n ≡ read_number c m w xs room
      unfolding read_number
      words_next n e =
          let t = opens c m w.banks fits in
          yes _ sound (yes _ (eq-eqb (map_number c m) 0 t.good_map) (yes _ t.fits (yes _ t.top e)))

      pub other_words : enough-words ≡ false → 16 ≡ read_number c m w xs room
      other_words e = words_next 16 (no _ (sym looked-at ∙ e) refl)

      module _ (words : enough-words ≡ true) where
        -- only the samples and the room are left to test
        samples_next : (n : ℕ)
            → n ≡ unless (leb (length xs) 65536 && samples_good xs) 5 (unless (leb (record_size * record_count c w.session.port xs) room) 6 0)
            → n ≡ read_number c m w xs room
        samples_next n e = words_next n (yes _ (sym looked-at ∙ words) e)

        pub too_many : 65536 < length xs → 5 ≡ read_number c m w xs room
        too_many h =
            let t : (leb (length xs) 65536 && samples_good xs) ≡ false = rw (lt-leb (length xs) 65536 h) in
            samples_next 5 (no _ t refl)

        module _ (few : length xs ≤ 65536) (good : Bool) (looked : good ≡ samples_good xs) where
          pub one_bad : good ≡ false → 5 ≡ read_number c m w xs room
          one_bad e =
              let t : (leb (length xs) 65536 && samples_good xs) ≡ false = rw (le-leb (length xs) 65536 few) (sym looked ∙ e) in
              samples_next 5 (no _ t refl)

          -- only the room is left to test
          room_next : good ≡ true → (n : ℕ) → n ≡ unless (leb (record_size * record_count c w.session.port xs) room) 6 0 → n ≡ read_number c m w xs room
          room_next e n q =
              let t : (leb (length xs) 65536 && samples_good xs) ≡ true = rw (le-leb (length xs) 65536 few) (sym looked ∙ e) in
              samples_next n (yes _ t q)

          module _ (all-good : good ≡ true) (enough : Bool) (counted : enough ≡ leb (record_size * record_count c w.session.port xs) room) where
            pub room_found : enough ≡ true → 0 ≡ read_number c m w xs room
            room_found e = room_next all-good 0 (yes _ (sym counted ∙ e) refl)

            pub room_short : enough ≡ false → 6 ≡ read_number c m w xs room
            room_short e = room_next all-good 6 (no _ (sym counted ∙ e) refl)
