-- RULES, "The bench program": what putting text into a lent buffer leaves.
use Rattle.std.specs.Prelude.{ℕ, ◌/◌, min, ◌≡◌, List, length}
use Rattle.io.specs.Counts.{IsPrefixLen}
use Rattle.base_bits.specs.Buffer.{filled}
use Rattle.base_sizes.specs.Sizes.{record_size}
use Rattle.text_lines.specs.Line.{line_size}
use Rattle.text_report.specs.Text.{lines_of}

-- a line at the start of the buffer, the rest unchanged, and how many bytes it is, all of them within the buffer
pub record Printed (line old new : List ℕ) (count : ℕ) : Type 0 where
  pub bytes : count ≡ length line
  pub buffer : new ≡ filled line old
  pub within : IsPrefixLen count new

-- the lines of as many records as there are and as fit, at the start of the buffer
pub record LinesPut (records old new : List ℕ) (count : ℕ) : Type 0 where
  pub lines : count ≡ min (length records / record_size) (length old / line_size)
  pub buffer : new ≡ filled (lines_of count records) old
