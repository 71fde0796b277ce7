-- Document 01, "The bench program": what the program prints, line by line.
use Rattle.std.specs.Prelude.{ℕ, zero, suc, List, [], ◌++◌, drop, Option, Some, None}
use Rattle.base_sizes.specs.Sizes.{record_size}
use Rattle.text_lines.specs.Text.{bytes_of}
use Rattle.text_lines.specs.Line.{line_of}
use Rattle.text_report.specs.Numbers.{decimal_of}

-- the lines of n records, one after another
unfoldable pub lines_of : ℕ → List ℕ → List ℕ
lines_of zero records = []
lines_of (suc n) records = line_of records ++ lines_of n (drop record_size records)

-- the first line, with the number of registers
unfoldable pub map_line : ℕ → List ℕ
map_line n = bytes_of "map " ++ decimal_of n ++ bytes_of "\n"

-- the last line, with the numbers of records and samples, and (document 02, Ask 9) of writes that ask for slow
unfoldable pub count_line : ℕ → ℕ → ℕ → List ℕ
count_line records samples slow =
    bytes_of "records " ++ decimal_of records ++ bytes_of " samples " ++ decimal_of samples ++ bytes_of " slow " ++ decimal_of slow ++ bytes_of "\n"

-- Document 02, Ask 1: the same for an older part, which has no slow setting to ask for
unfoldable pub older_count_line : ℕ → ℕ → List ℕ
older_count_line records samples = bytes_of "records " ++ decimal_of records ++ bytes_of " samples " ++ decimal_of samples ++ bytes_of "\n"

-- a refusal, with its number
unfoldable pub refused_line : ℕ → List ℕ
refused_line number = bytes_of "refused " ++ decimal_of number ++ bytes_of "\n"

-- the last line of either: that of a newer chip has the number of writes that ask for slow
abbrev pub counts_line : ℕ → ℕ → Option ℕ → List ℕ
counts_line records samples (Some slow) = count_line records samples slow
counts_line records samples None = older_count_line records samples
