-- Bounds of what comes from a file.
use Rattle.std.specs.Prelude.{ℕ, ◌+◌, ◌%◌, ◌≤◌, cond, ◌&&◌, leb, Result, Ok, Err}
use Rattle.std.specs.declared.io.Error.{Error}
use Rattle.text_recording.specs.Sizes.{least_length, most_length}

-- at most so many bytes came
abbrev pub FilledWithin : Result ℕ Error → ℕ → Type 0
FilledWithin (Ok got) most = got ≤ most
FilledWithin (Err reason) most = Unit {0}

-- Document 01, "The map", and document 02, Ask 3: where a map with this length field ends. The field is 3 + 3n or 4 + 3n, which
-- never meet. For one that no map has nothing is taken but the field itself.
unfoldable pub map_end : ℕ → ℕ
map_end length = cond (leb least_length length && leb length most_length && leb (length % 3) 1) (2 + length) 2
