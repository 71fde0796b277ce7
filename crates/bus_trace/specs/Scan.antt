-- Scanning samples with CSB low: what a scan asks and promises, whatever the chip and the port.
use Rattle.std.specs.Prelude.{ℕ, zero, suc, ◌+◌, ◌-◌, ◌*◌, ◌%◌, ◌^◌, ◌<◌, ◌≤◌, ◌≡◌, Bool, true, false, List, length, get_or}
use Rattle.base_bits.specs.Bits.{shifted_in}
use Rattle.base_chip.specs.declared.Chip.{Chip}
use Rattle.bus_session.specs.declared.Port.{Port}
use Rattle.bus_words.specs.Words.{word_of, PastHigh}
use Rattle.bus_words.specs.Lanes.{clock_of, Level, lows_in, rises_in}
use Rattle.bus_trace.specs.declared.scan.Progress.{Progress}
use Rattle.bus_trace.specs.declared.scan.Bits.{Bits}
use Rattle.bus_trace.specs.declared.high.Past.{Past}
use Rattle.bus_trace.specs.Progress.{last_of, source_line, Reached}

abbrev pub progress : ℕ → ℕ → ℕ → ℕ → Progress
progress level bits value place = record { level = level; bits = bits; value = value; at = place }

-- CSB of the port is low, and its bits come from this line, in this order, this many before the last
pub record LowScanBefore (c : Chip) (s : Port) (line : ℕ) (lsb : Bool) (last : ℕ) : Type 0 where
  pub low : s.csb ≡ false
  pub line_is : line ≡ source_line c s
  pub order_is : lsb ≡ s.in_use.lsb_first
  pub last_is : last ≡ last_of s.phase

-- where progress p is reached, progress q is
pub record Onward (xs : List ℕ) (line : ℕ) (lsb : Bool) (last : ℕ) (p q : Progress) : Type 0 where
  pub ahead : p.at ≤ q.at
  pub carried : {c : Chip} {s : Port} {i : ℕ} → LowScanBefore c s line lsb last → Reached c xs s i p → Reached c xs s i q

-- a progress that may be reached: a level, no more bits than come before the last, and their value
pub record ProgressBounds (xs : List ℕ) (last : ℕ) (p : Progress) : Type 0 where
  pub level : Level p.level
  pub within : p.at ≤ length xs
  pub few : p.bits ≤ last
  pub short : last < 16
  pub small : p.value < 2 ^ p.bits

-- A scan from progress p ends at progress r: at the end of the samples, at one with CSB high, or at the rise that gives the last bit.
pub record LowScanAfter (xs : List ℕ) (line : ℕ) (lsb : Bool) (last : ℕ) (p r : Progress) : Type 0 where
  pub onward : Onward xs line lsb last p r
  pub standing : ProgressBounds xs last r
  pub stopped : r.at < length xs → get_or xs r.at 0 % 2 ≡ 0 → (r.bits ≡ last) × (r.level < get_or xs r.at 0 % 4)

-- What a scan asks of a port, whatever its CSB, and what it promises: the progress that is reached, and why it is not further.
pub record ScanBefore (c : Chip) (s : Port) (csb : Bool) (line : ℕ) (lsb : Bool) (last : ℕ) : Type 0 where
  pub csb_is : csb ≡ s.csb
  pub line_is : line ≡ source_line c s
  pub order_is : lsb ≡ s.in_use.lsb_first
  pub last_is : last ≡ last_of s.phase

pub record ScanAfter (xs : List ℕ) (csb : Bool) (line : ℕ) (lsb : Bool) (last : ℕ) (p r : Progress) : Type 0 where
  pub ahead : p.at ≤ r.at
  pub within : r.at ≤ length xs
  pub carried : {c : Chip} {s : Port} {i : ℕ} → ScanBefore c s csb line lsb last → Reached c xs s i p → Reached c xs s i r
  pub falls : csb ≡ true → r.at < length xs → get_or xs r.at 0 % 2 ≡ 0
  pub stopped : csb ≡ false → r.at < length xs → get_or xs r.at 0 % 2 ≡ 0 → (r.bits ≡ last) × (r.level < get_or xs r.at 0 % 4)

-- the level of SCLK after n samples from sample i on
unfoldable pub level_after : List ℕ → ℕ → ℕ → ℕ → ℕ
level_after xs i l zero = l
level_after xs i l (suc n) = clock_of (get_or xs (i + n) 0)

-- samples with CSB high are passed, from sample i on: where it falls, or the end, and the level of SCLK before it
pub record Rested (xs : List ℕ) (l i : ℕ) (r : Past) : Type 0 where
  pub past : PastHigh xs i r.at
  pub level_is : r.level ≡ level_after xs i l (r.at - i)

-- how many of the eight samples from sample i on come before the first with CSB high
abbrev pub lows_at : List ℕ → ℕ → ℕ
lows_at xs i = lows_in 8 (word_of xs i 8)

-- eight samples are there from the progress on, with these rises before CSB is high
pub record RisesAhead (xs : List ℕ) (p : Progress) (rises : ℕ) : Type 0 where
  pub room : p.at + 8 ≤ length xs
  pub mask : rises ≡ rises_in (lows_at xs p.at) p.level (word_of xs p.at 8)

-- the bits of some lanes are taken, and the rises of the others are left
pub record LanesTaken (xs : List ℕ) (line : ℕ) (lsb : Bool) (last : ℕ) (p : Progress) (r : Bits) : Type 0 where
  pub lane : ℕ
  pub near : lane ≤ lows_at xs p.at
  pub left : r.rising ≡ rises_in (lows_at xs p.at - lane) (level_after xs p.at p.level lane) (word_of xs (p.at + lane) (8 - lane)) * 2 ^ (8 * lane)
  pub onward : Onward xs line lsb last p (progress (level_after xs p.at p.level lane) r.bits r.value (p.at + lane))
  pub standing : ProgressBounds xs last (progress (level_after xs p.at p.level lane) r.bits r.value (p.at + lane))

-- and more are left only where the next would be the last
pub record BitsAfter (xs : List ℕ) (line : ℕ) (lsb : Bool) (last : ℕ) (p : Progress) (r : Bits) : Type 0 where
  pub gathered : LanesTaken xs line lsb last p r
  pub full : (r.rising ≡ 0 → ⊥) → r.bits ≡ last

-- the value with three bits more, and with four
abbrev pub shifted_three : Bool → ℕ → ℕ → Bool → Bool → Bool → ℕ
shifted_three lsb v n a b c = shifted_in lsb (shifted_in lsb (shifted_in lsb v n a) (n + 1) b) (n + 1 + 1) c

abbrev pub shifted_four : Bool → ℕ → ℕ → Bool → Bool → Bool → Bool → ℕ
shifted_four lsb v n a b c d = shifted_in lsb (shifted_three lsb v n a b c) (n + 1 + 1 + 1) d
