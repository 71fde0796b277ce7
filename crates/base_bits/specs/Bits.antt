-- Single bits of a number: a test, the masked merge of two bytes, and one more bit shifted into a value.
use Rattle.std.specs.Prelude.{ℕ, zero, suc, ◌+◌, ◌*◌, ◌/◌, ◌%◌, ◌^◌, Bool, cond, eqb}

-- bit i of x is one; bit 0 is the lowest
unfoldable pub bit_at : ℕ → ℕ → Bool
bit_at x i = eqb (x / 2 ^ i % 2) 1

-- Document 01, "What a whole byte does": of the lowest w bits, each is that of new where mask has a one, else that of old.
unfoldable pub merged : ℕ → ℕ → ℕ → ℕ → ℕ
merged zero old new mask = 0
merged (suc w) old new mask = merged w (old / 2) (new / 2) (mask / 2) * 2 + cond (bit_at mask 0) (new % 2) (old % 2)

-- a bit as a number
abbrev pub bit_of : Bool → ℕ
bit_of b = cond b 1 0

-- Document 01, "Registers and session": the value of `bits` bits with one more taken. The first taken is the highest,
-- so the next goes below the others; with LSB first it is the lowest, and the next goes above them.
abbrev pub shifted_in : Bool → ℕ → ℕ → Bool → ℕ
shifted_in lsb value bits bit = cond lsb (value + bit_of bit * 2 ^ bits) (value * 2 + bit_of bit)
