-- What the program's functions cite of what came from standard input and of what the reader left.
use mathlib.Core.Path.{◌≡◌, refl, ap, ◌∙◌}
use Prim.Native.Nat.{ℕ, ◌+◌, ◌-◌, ◌*◌, ◌/◌, ◌%◌, ◌^◌, ◌<◌, ◌≤◌, min}
use mathlib.Core.Bool.{true, ◌&&◌}
use mathlib.Core.List.{List}
use native.Mathlib.Omega.{arith}
use lib.ListN.{length, take}
use lib.Seq.{length-take-le}
use lib.Dec.{eqb, leb}
use borrow.Author.Tests.{eq-eqb, eqb-true, le-leb, leb-true}
use Rattle.base_sizes.specs.Sizes.{record_size}
use Rattle.base_bits.proofs.Cases.{each, and_left, and_right}
use Rattle.base_chip.specs.declared.Chip.{Chip}
use Rattle.map_format.specs.Format.{count_of, most_count}
use Rattle.map_test.specs.MapTest.{map_number, top_fits}
use Rattle.map_test.proofs.Laws.{good_count}
use Rattle.bus_session.specs.declared.Session.{Session}
use Rattle.reg_banks.specs.Banks.{Banks}
use Rattle.read_records.proofs.SlowCount.{slow_most}
use Rattle.read_run.specs.Reading.{ReaderState}
use Rattle.read_run.proofs.Bound.{piece_bound}
use Rattle.read_refusals.specs.Numbers.{open_number, words_fit, read_number}
use Rattle.read_refusals.proofs.Laws.{open_number_most, read_number_most, read_tests}
use Rattle.read_calls.specs.Calls.{Opening, opening, open_of, Outcome, outcome, read_of}
use Rattle.std.specs.Prelude.{Result, Ok, Err, MatchResult, is_ok}
use Rattle.std.specs.declared.io.Error.{Error}
use Rattle.text_recording.specs.declared.Family.{Family}
use Rattle.text_recording.specs.declared.Family.TheVariants.{Newer, Older}
use Rattle.text_recording.specs.declared.tally.Tally.{Tally}
use Rattle.text_recording.specs.Sizes.{least_length, most_length, map_space, piece, record_space, text_space}
use Rattle.text_recording.specs.Bounds.{FilledWithin, map_end}
use Rattle.text_recording.specs.Families.{chip_of}
use Rattle.text_recording.specs.Tally.{nothing_read, counted_of}

-- a part of a buffer that holds no more
pub few_taken : {got most : ℕ} (l : List ℕ) → got ≤ length l → got ≤ most → length (take got l) ≤ most
few_taken {got} l h few = rw (length-take-le got l h) few

-- the bytes that came, where a failure is told in words of its own
pub got_within : {E : Type 0} (Q : Error → Type 0) (filled : Result ℕ Error) {told : Result ℕ E} {got most : ℕ}
    → MatchResult filled (λ n. told ≡ Ok n) Q → is_ok told ≡ is_ok filled → told ≡ Ok got → FilledWithin filled most → got ≤ most
got_within Q (Ok n) {got = got} same variant is within =
    let bytes : n ≡ got = cc in
    omega arith
got_within Q (Err reason) other variant is within = absurd (cc)

-- a larger bound holds too
pub within_more : (filled : Result ℕ Error) {some most : ℕ} → some ≤ most → FilledWithin filled some → FilledWithin filled most
within_more (Ok got) h w = omega arith
within_more (Err reason) h w = tt

-- a map ends after its length field, and there is room for a byte more
pub map_end_bounds : (length : ℕ) {end : ℕ} → end ≡ map_end length → (2 ≤ end) × (end < map_space)
unfolding map_end
map_end_bounds length {end} e =
    rw e
    (each (λ (n : ℕ). (2 ≤ n) × (n < map_space)) (leb least_length length && leb length most_length && leb (length % 3) 1)
    (λ t. omega (arith, leb-true length most_length (and_right (leb least_length length) _ (and_left (leb least_length length && leb length most_length) _ t))))
    (λ t. omega arith))

-- the records of a call of the reader, seven bytes each, are within the buffer that was lent
within_room : (c : Chip) (m : List ℕ) (w : ReaderState) (samples records : List ℕ) → record_size * (read_of c m w samples records).count ≤ length records
unfolding read_of
within_room c m w samples records =
    each (λ (o : Outcome). record_size * o.count ≤ length records) (eqb (read_number c m w samples (length records)) 0)
    (λ t. leb-true _ _ (read_tests c m w samples (length records) (eqb-true _ _ t)).enough) (λ t. omega arith)

-- the top that a good map gives an older part is one that it can have
pub top_of_map : (f : Family) (m : List ℕ) {c : Chip} → c ≡ chip_of f m → map_number c m ≡ 0 → top_fits c m ≡ true
unfolding chip_of
top_of_map Newer m e good = rw e
top_of_map (Older part) m {c} e good =
    let n = good_count c m good in
    rw e (rw (le-leb 0x000F (count_of m - 1) (omega (arith, n)), le-leb (count_of m - 1) 0x1FFF (omega (arith, n)), eq-eqb (count_of m - 1) (count_of m - 1) refl))

-- words for as many registers as banks were lent for are those of a good map
pub words_of_map : (c : Chip) (m words : List ℕ) → map_number c m ≡ 0 → length words ≡ (min (count_of m) most_count + 63) / 64 → words_fit m words ≡ true
words_of_map c m words good e = eq-eqb (length words) ((count_of m + 63) / 64) (omega (arith, e, good_count c m good))

-- the number that opening tells
pub open_told : (f : Family) (m : List ℕ) {c : Chip} → c ≡ chip_of f m → (b : Banks) {number : ℕ} {s : Session} {after : Banks}
    → opening number s after ≡ open_of c m b → number ≤ 5
unfolding open_of
open_told f m {c} chip b {number} e =
    let told : number ≡ open_number c m b = ap (λ (o : Opening). o.number) e in
    omega (arith, open_number_most c m (top_of_map f m chip) b)

module _ (c : Chip) (m : List ℕ) (w : ReaderState) (samples records : List ℕ) where
  -- the number that reading a piece tells: the top is the map's, and the records of 4,096 samples have room
  read_told : top_fits c m ≡ true → words_fit m w.touched ≡ true → length samples ≤ piece → 9562 ≤ length records → (read_of c m w samples records).number ≤ 5
  unfolding read_of
  read_told top words few room =
      let most : read_number c m w samples (length records) ≤ 5 =
      read_number_most c m (λ good. top) w samples (length records) (λ good. words) (omega (arith, piece_bound c w.session.port samples few)) in
      each (λ (o : Outcome). o.number ≤ 5) (eqb (read_number c m w samples (length records)) 0) (λ t. omega arith) (λ t. most)

  module _ {number count : ℕ} {after : ReaderState} {left : List ℕ} (e : outcome number after count left ≡ read_of c m w samples records)
      (full : length records ≡ record_space) where
    -- how many records a piece leaves
    pub records_within : record_size * count ≤ record_space
    records_within =
        let counted : count ≡ (read_of c m w samples records).count = ap (λ (o : Outcome). o.count) e in
        omega (arith, within_room c m w samples records)

    -- with which number a piece is refused
    pub piece_told : top_fits c m ≡ true → words_fit m w.touched ≡ true → length samples ≤ piece → number ≤ 5
    piece_told top words few =
        let told : number ≡ (read_of c m w samples records).number = ap (λ (o : Outcome). o.number) e in
        omega (arith, read_told top words few (omega arith))

-- There are no more records than samples, and no more of them ask for slow than there are.
pub record Counts (t : Tally) : Type 0 where
  pub few_records : t.records ≤ t.samples
  pub few_slow : t.slow ≤ t.records

pub counts_nothing : {t : Tally} → t ≡ nothing_read → Counts t
counts_nothing e = rw e (record { few_records = omega arith; few_slow = omega arith })

-- a piece of the samples, which are not yet too many to count
module _ (t : Tally) (samples : List ℕ) {got : ℕ} (within : got ≤ length samples) where
  module _ (h : t.samples < 0xFFFF_FFFF_FFFF_FFFF - piece) where
    pub samples_countable : got ≤ piece → t.samples + length (take got samples) < 2 ^ 64
    samples_countable few = rw (length-take-le got samples within) (omega arith)

    -- a whole one leaves fewer to come
    pub fewer_left : (records : List ℕ) {next : Tally} → next ≡ counted_of t (take got samples) records → piece ≤ got
        → 0xFFFF_FFFF_FFFF_FFFF - next.samples < 0xFFFF_FFFF_FFFF_FFFF - t.samples
    unfolding counted_of
    fewer_left records e whole = rw (e, length-take-le got samples within) (omega arith)

  -- its records
  module _ (k : Counts t) (records : List ℕ) {size : ℕ} (few_bytes : size ≤ record_space) (in_Buffer : size ≤ length records) where
    -- 4,096 samples leave 1,366 records at most
    pub counts_more : {next : Tally} → next ≡ counted_of t (take got samples) (take size records) → piece ≤ got → Counts next
    unfolding counted_of
    counts_more e whole =
        let part = take size records in
        rw e
        (record {
          few_records = rw (length-take-le got samples within, length-take-le size records in_Buffer) (omega (arith, k.few_records));
          few_slow = omega (arith, k.few_slow, slow_most (length part / record_size) part);
        })

-- as many words as before fit as before
pub words_still : (m words words₀ : List ℕ) → length words ≡ length words₀ → words_fit m words₀ ≡ true → words_fit m words ≡ true
words_still m words words₀ e f = ap (λ (n : ℕ). eqb n ((count_of m + 63) / 64)) e ∙ f

-- What holds whenever a piece is about to be read: the banks, words and buffers are as long as they were lent, and the counts are in order.
pub record Reading (active₀ buffer₀ words₀ active buffer words samples records text : List ℕ) (t : Tally) : Type 0 where
  pub same_active : length active ≡ length active₀
  pub same_buffer : length buffer ≡ length buffer₀
  pub same_words : length words ≡ length words₀
  pub samples_room : length samples ≡ piece
  pub records_room : length records ≡ record_space
  pub text_room : length text ≡ text_space
  pub counts : Counts t
