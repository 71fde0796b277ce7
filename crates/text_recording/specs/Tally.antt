-- How much of a recording has been read, and the line that tells it.
use Rattle.std.specs.Prelude.{ℕ, ◌+◌, ◌/◌, ◌^◌, ◌<◌, List, length}
use Rattle.base_sizes.specs.Sizes.{record_size}
use Rattle.base_chip.specs.declared.Chip.{Chip}
use Rattle.base_chip.specs.declared.Chip.TheVariants.{Newer, Older}
use Rattle.read_records.specs.Slow.{slow_of}
use Rattle.text_report.specs.Text.{count_line, older_count_line}
use Rattle.text_recording.specs.declared.tally.Tally.{Tally}
use Rattle.text_recording.specs.Glance.{nothing_seen, seen_of, good_before}

abbrev pub nothing_read : Tally
nothing_read = record { records = 0; samples = 0; slow = 0; seen = nothing_seen }

-- one more piece and its records
unfoldable pub counted_of : Tally → List ℕ → List ℕ → Tally
counted_of t piece records = record {
  records = t.records + length records / record_size;
  samples = t.samples + length piece;
  slow = t.slow + slow_of records;
  seen = seen_of t.seen piece;
}

-- the samples of a piece that come before the first bad one
abbrev pub up_to_bad : Tally → List ℕ → Tally
up_to_bad t piece = record { records = t.records; samples = t.samples + good_before piece; slow = t.slow; seen = t.seen }

-- the counts fit into 64 bits with one more piece
pub record Room (t : Tally) (piece records : List ℕ) : Type 0 where
  pub more_records : t.records + length records / record_size < 2 ^ 64
  pub more_samples : t.samples + length piece < 2 ^ 64
  pub more_slow : t.slow + length records / record_size < 2 ^ 64

-- The last line. Document 02, Ask 1: that of an older part has no number of writes that ask for slow (Ask 9).
abbrev pub last_line : Chip → Tally → List ℕ
last_line Newer t = count_line t.records t.samples t.slow
last_line (Older part top) t = older_count_line t.records t.samples
