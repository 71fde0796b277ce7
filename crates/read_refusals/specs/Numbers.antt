-- Document 01, "Numbers given back": the numbers of the reader's two calls, on any chip.
use Rattle.std.specs.Prelude.{ℕ, ◌+◌, ◌*◌, ◌/◌, Bool, true, ◌&&◌, List, [], ◌∷◌, length, eqb, leb}
use Rattle.base_bits.specs.Tests.{unless}
use Rattle.base_sizes.specs.Sizes.{record_size}
use Rattle.base_numbers.specs.Numbers.{done, bad_session, bad_bank, bad_samples, short_records, bad_top, bad_words}
use Rattle.base_chip.specs.declared.Chip.{Chip}
use Rattle.map_format.specs.Format.{count_of}
use Rattle.map_test.specs.MapTest.{map_number, top_fits}
use Rattle.bus_session.specs.State.{sound_session}
use Rattle.reg_banks.specs.Banks.{Banks}
use Rattle.read_run.specs.Reading.{ReaderState, record_count}

-- both banks are n bytes
abbrev pub banks_fit : List ℕ → Banks → Bool
banks_fit m b = eqb (length b.active) (count_of m) && eqb (length b.buffer) (count_of m)

-- The number of opening: the lowest that applies; document 02, Ask 1: 12 after 4.
unfoldable pub open_number : Chip → List ℕ → Banks → ℕ
open_number c m b =
    unless (eqb (map_number c m) done) (map_number c m)
    (unless (banks_fit m b) bad_bank
    (unless (top_fits c m) bad_top
    done))

-- Document 01, "Samples and edges": bits 4 to 7 of each sample are zero.
unfoldable pub samples_good : List ℕ → Bool
samples_good [] = true
samples_good (x ∷ xs) = leb x 15 && samples_good xs

-- Document 02, Ask 7: n divided by 64, rounded up, words of touched registers
abbrev pub words_fit : List ℕ → List ℕ → Bool
words_fit m words = eqb (length words) ((count_of m + 63) / 64)

-- The number of the reader: the lowest that applies, but for 12, which comes after 4, and 16, which comes after both. Number 6 counts the
-- size of a record for each.
unfoldable pub read_number : Chip → List ℕ → ReaderState → List ℕ → ℕ → ℕ
read_number c m w samples room =
    unless (sound_session c w.session) bad_session
    (unless (eqb (map_number c m) done) (map_number c m)
    (unless (banks_fit m w.banks) bad_bank
    (unless (top_fits c m) bad_top
    (unless (words_fit m w.touched) bad_words
    (unless (leb (length samples) 65536 && samples_good samples) bad_samples
    (unless (leb (record_size * record_count c w.session.port samples) room) short_records
    done))))))
