-- Document 01, "Records", with document 02, Ask 8: the size of a record.
use Rattle.std.specs.Prelude.{ℕ}

-- seven bytes each
abbrev pub record_size : ℕ
record_size = 7
