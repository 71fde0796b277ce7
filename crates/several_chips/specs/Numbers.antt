-- Document 02, Ask 10: the numbers of reading several chips, in their order.
use Rattle.std.specs.Prelude.{ℕ, ◌+◌, ◌*◌, ◌%◌, Bool, true, ◌&&◌, ◌||◌, List, [], ◌∷◌, eqb, leb, length}
use Rattle.base_bits.specs.Tests.{unless}
use Rattle.base_numbers.specs.Numbers.{done, bad_session, bad_bank, bad_samples, short_records, bad_chips}
use Rattle.base_chip.specs.declared.Chip.TheVariants.{Newer}
use Rattle.map_format.specs.Format.{count_of}
use Rattle.map_test.specs.MapTest.{map_number}
use Rattle.bus_session_bytes.specs.Layout.{session_of}
use Rattle.read_run.specs.Reading.{record_count}
use Rattle.several_chips.specs.declared.Member.{Member}
use Rattle.several_chips.specs.Samples.{Sample, samples_in, all_seen_by, all_good}
use Rattle.several_chips.specs.Members.{sound_member}

-- a range of the memory: where it starts, and how long it is
pub record Range : Type 0 where
  pub start : ℕ
  pub size : ℕ

-- it leaves the memory if its end lies beyond
abbrev pub inside : ℕ → Range → Bool
inside size r = leb (r.start + r.size) size

-- two ranges share no byte; an empty one has none to share
abbrev pub apart : Range → Range → Bool
apart r s = (eqb r.size 0 || eqb s.size 0) || (leb (r.start + r.size) s.start || leb (s.start + s.size) r.start)

-- the ranges of all chips, the active and the buffer one of each
unfoldable pub ranges_of : List Member → List Range
ranges_of [] = []
ranges_of (w ∷ ws) =
    record { start = w.active_start; size = w.active_length } ∷ record { start = w.buffer_start; size = w.buffer_length } ∷ ranges_of ws

unfoldable pub apart_from : Range → List Range → Bool
apart_from r [] = true
apart_from r (s ∷ rs) = apart r s && apart_from r rs

-- each range lies in the memory, and apart from those after it
unfoldable pub ranges_good : ℕ → List Range → Bool
ranges_good size [] = true
ranges_good size (r ∷ rs) = inside size r && (apart_from r rs && ranges_good size rs)

-- one to eight chips, with ranges that lie in the memory and don't overlap
abbrev pub chips_good : ℕ → List Member → Bool
chips_good size ws = (leb 1 (length ws) && leb (length ws) 8) && ranges_good size (ranges_of ws)

unfoldable pub all_sound : List Member → Bool
all_sound [] = true
all_sound (w ∷ ws) = sound_member w && all_sound ws

-- each range is n bytes
unfoldable pub ranges_fit : ℕ → List Member → Bool
ranges_fit n [] = true
ranges_fit n (w ∷ ws) = (eqb w.active_length n && eqb w.buffer_length n) && ranges_fit n ws

-- an even number of bytes, up to 65,536 samples, each of them good
abbrev pub several_samples_good : ℕ → List ℕ → Bool
several_samples_good chips bytes = eqb (length bytes % 2) 0 && (leb (length bytes) (2 * 65536) && all_good chips (samples_in bytes))

-- how many records the samples give of the chips from number i on: those of each that is read alone
unfoldable pub count_from : ℕ → List Member → List Sample → ℕ
count_from i [] xs = 0
count_from i (w ∷ ws) xs = record_count Newer (session_of w.session).port (all_seen_by i xs) + count_from (i + 1) ws xs

-- a record has one byte more than that of one chip
abbrev pub several_record_size : ℕ
several_record_size = 8

-- The number: 17 comes before 1, and the others are the reader's, of all chips.
unfoldable pub several_number : List ℕ → List Member → ℕ → List ℕ → ℕ → ℕ
several_number m ws size bytes room =
    unless (chips_good size ws) bad_chips
    (unless (all_sound ws) bad_session
    (unless (eqb (map_number Newer m) done) (map_number Newer m)
    (unless (ranges_fit (count_of m) ws) bad_bank
    (unless (several_samples_good (length ws) bytes) bad_samples
    (unless (leb (several_record_size * count_from 0 ws (samples_in bytes)) room) short_records
    done)))))
