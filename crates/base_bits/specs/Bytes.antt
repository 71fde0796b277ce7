-- Bytes in a row, and sixteen bits as two of them.
use Rattle.std.specs.Prelude.{ℕ, ◌+◌, ◌*◌, ◌/◌, ◌%◌, List, [], ◌∷◌, get_or}

-- the byte at a place, 0 beyond the end
abbrev pub byte_at : List ℕ → ℕ → ℕ
byte_at l i = get_or l i 0

-- sixteen bits, big-endian: read at a place, and as bytes
abbrev pub word_at : List ℕ → ℕ → ℕ
word_at l i = byte_at l i * 256 + byte_at l (i + 1)

abbrev pub word_bytes : ℕ → List ℕ
word_bytes x = x / 256 ∷ x % 256 ∷ []
