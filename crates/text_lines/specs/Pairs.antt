-- Document 01, "The bench program": the table by which a byte is turned into its two digits at once.
use Rattle.std.specs.Prelude.{ℕ, ◌+◌, ◌*◌, ◌/◌, ◌%◌, ◌<◌, ◌≡◌, List, get_or}
use Rattle.text_lines.specs.Text.{digit_of}

-- the two digits of a byte as one number, the first lowest
abbrev pub pair_of : ℕ → ℕ
pair_of x = digit_of (x / 16) + digit_of (x % 16) * 256

-- a table that has them for each byte
abbrev pub Paired : List ℕ → Type 0
Paired table = (x : ℕ) → x < 256 → get_or table x 0 ≡ pair_of x
