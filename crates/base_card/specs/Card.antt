-- Document 02, Ask 5: bits turned, the first for the last.
use Rattle.std.specs.Prelude.{ℕ, zero, suc, ◌+◌, ◌*◌, ◌/◌, ◌%◌, ◌^◌, ◌<◌, ◌≡◌, Bool, List, get_or, eqb}

-- the lowest w bits of x, the other way round: the lowest becomes the highest
unfoldable pub turned : ℕ → ℕ → ℕ
turned zero x = 0
turned (suc w) x = x % 2 * 2 ^ w + turned w (x / 2)

-- a table is the card: its entries 0 to F are these nibbles turned
abbrev pub IsCard : List ℕ → Type 0
IsCard t = (n : ℕ) → n < 16 → get_or t n 0 ≡ turned 4 n

-- Document 02, Ask 2: a byte reads the same from both ends
unfoldable pub is_mirror : ℕ → Bool
is_mirror v = eqb (turned 8 v) v
