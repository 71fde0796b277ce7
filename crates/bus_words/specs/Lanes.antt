-- Eight samples in one word, a byte each: what is known of each of them, as a bit in its byte.
use Rattle.std.specs.Prelude.{ℕ, zero, suc, ◌+◌, ◌*◌, ◌-◌, ◌/◌, ◌%◌, ◌<◌, ◌≡◌, Bool, cond, eqb}
use Rattle.base_bits.specs.Bits.{bit_of}

-- SCLK of the lowest sample, as it stands in it: 0 or 2
abbrev pub clock_of : ℕ → ℕ
clock_of w = w / 2 % 2 * 2

-- such a level
pub record Level (l : ℕ) : Type 0 where
  pub even : l % 2 ≡ 0
  pub small : l < 4

-- CSB and SCLK of k samples, as they stand in them
unfoldable pub levels_in : ℕ → ℕ → ℕ
levels_in zero w = 0
levels_in (suc k) w = levels_in k (w / 256) * 256 + w % 4

-- CSB of k samples
unfoldable pub highs_in : ℕ → ℕ → ℕ
highs_in zero w = 0
highs_in (suc k) w = highs_in k (w / 256) * 256 + w % 2

-- how many of k samples come before the first with CSB high
unfoldable pub lows_in : ℕ → ℕ → ℕ
lows_in zero w = 0
lows_in (suc k) w = cond (eqb (w % 2) 0) (suc (lows_in k (w / 256))) 0

-- SCLK before the sample after k of them, by the level before them all
unfoldable pub level_in : ℕ → ℕ → ℕ → ℕ
level_in zero l w = l
level_in (suc k) l w = level_in k (clock_of w) (w / 256)

-- the rises of SCLK in k samples, by the level before them: 2 where it is low before and high now
unfoldable pub rises_in : ℕ → ℕ → ℕ → ℕ
rises_in zero l w = 0
rises_in (suc k) l w = rises_in k (clock_of w) (w / 256) * 256 + (clock_of w - l)

-- four bits as a number, the first the highest
abbrev pub nibble : Bool → Bool → Bool → Bool → ℕ
nibble a b c d = ((bit_of a * 2 + bit_of b) * 2 + bit_of c) * 2 + bit_of d
