-- Samples taken eight at a time.
use Rattle.std.specs.Prelude.{ℕ, zero, suc, ◌+◌, ◌*◌, ◌-◌, ◌%◌, ◌<◌, ◌≤◌, ◌≡◌, List, length, get_or}

-- k samples from sample i on, as one number: the first is the lowest byte
unfoldable pub word_of : List ℕ → ℕ → ℕ → ℕ
word_of xs i zero = 0
word_of xs i (suc k) = word_of xs (i + 1) k * 256 + get_or xs i 0

-- the samples from i up to j are there, and all have CSB high
pub record High (xs : List ℕ) (i j : ℕ) : Type 0 where
  pub ahead : i ≤ j
  pub within : j ≤ length xs
  pub all : (k : ℕ) → k < j - i → get_or xs (i + k) 0 % 2 ≡ 1

-- and the next has it low, if there is one
pub record PastHigh (xs : List ℕ) (i j : ℕ) : Type 0 where
  pub high : High xs i j
  pub falls : j < length xs → get_or xs j 0 % 2 ≡ 0
