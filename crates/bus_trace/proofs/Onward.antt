-- A scan of samples with CSB low, sample by sample: from progress to progress, whatever the chip and the port.
use mathlib.Core.Path.{◌≡◌, refl, sym, ◌∙◌}
use mathlib.Core.Bool.{Bool, true, false, cond, true≢false}
use mathlib.Core.List.{List}
use Prim.Native.Nat.{ℕ, ◌+◌, ◌%◌, ◌<◌, ◌≤◌}
use native.Mathlib.Omega.{arith}
use lib.ListN.{length, get_or}
use Rattle.base_bits.specs.Bits.{bit_at, shifted_in}
use Rattle.base_bits.proofs.Laws.{shifted_lt}
use Rattle.base_chip.specs.declared.Chip.{Chip}
use Rattle.bus_session.specs.declared.Phase.{Phase}
use Rattle.bus_session.specs.declared.Phase.TheVariants.{Rest, Instruction, Data}
use Rattle.bus_session.specs.declared.Port.{Port}
use Rattle.bus_session.specs.State.{width_of, sound_port}
use Rattle.bus_session.proofs.Laws.{fit_sound}
use Rattle.bus_words.specs.Lanes.{Level}
use Rattle.bus_trace.specs.declared.scan.Progress.{Progress}
use Rattle.bus_trace.specs.declared.high.Past.{Past}
use Rattle.bus_trace.specs.Progress.{last_of}
use Rattle.bus_trace.specs.Scan.{progress, Onward, ProgressBounds, LowScanAfter, ScanAfter, Rested}
use Rattle.bus_trace.proofs.Advance.{idle, bit, past_high}

module _ {xs : List ℕ} {line : ℕ} {lsb : Bool} {last : ℕ} where
  pub still_there : {p : Progress} → Onward xs line lsb last p p
  still_there = record { ahead = omega arith; carried = λ v r. r }

  pub onward_join : {p q r : Progress} → Onward xs line lsb last p q → Onward xs line lsb last q r → Onward xs line lsb last p r
  onward_join f g = record { ahead = omega (arith, f.ahead, g.ahead); carried = λ v r. g.carried v (f.carried v r) }

  module _ (p : Progress) (h : p.at < length xs) (low : get_or xs p.at 0 % 2 ≡ 0) where
    -- no rise: only the level changes
    pub onward_idle : get_or xs p.at 0 % 4 ≤ p.level → Onward xs line lsb last p (progress (get_or xs p.at 0 % 4) p.bits p.value (p.at + 1))
    onward_idle k = record { ahead = omega arith; carried = λ v r. idle _ v.low r h low k }

    -- a rise: one bit more
    pub onward_bit : p.level < get_or xs p.at 0 % 4 → p.bits < last
        → Onward xs line lsb last p (progress (get_or xs p.at 0 % 4) (p.bits + 1)
        (shifted_in lsb p.value p.bits (bit_at (get_or xs p.at 0) line)) (p.at + 1))
    onward_bit k b = record { ahead = omega arith; carried = λ v r. rw (v.line_is, v.order_is) (bit _ v.low r h low k (omega (arith, b, v.last_is))) }

-- ---- pieces that may be reached

pub standing_idle : {xs : List ℕ} {last : ℕ} {p : Progress} → ProgressBounds xs last p → p.at < length xs → get_or xs p.at 0 % 2 ≡ 0
    → ProgressBounds xs last (progress (get_or xs p.at 0 % 4) p.bits p.value (p.at + 1))
standing_idle s h e =
    record { level = record { even = omega arith; small = omega arith }; within = omega arith; few = s.few; short = s.short; small = s.small }

pub standing_bit : {xs : List ℕ} {last : ℕ} {p : Progress} (lsb b : Bool)
    → ProgressBounds xs last p → p.at < length xs → get_or xs p.at 0 % 2 ≡ 0 → p.bits < last
    → ProgressBounds xs last (progress (get_or xs p.at 0 % 4) (p.bits + 1) (shifted_in lsb p.value p.bits b) (p.at + 1))
standing_bit {p = p} lsb b s h e k = record {
  level = record { even = omega arith; small = omega arith };
  within = omega arith;
  few = omega arith;
  short = s.short;
  small = shifted_lt lsb p.value p.bits b s.small;
}

-- ---- a scan that goes on, and its ends

pub record Going (xs : List ℕ) (line : ℕ) (lsb : Bool) (last : ℕ) (p q : Progress) : Type 0 where
  pub onward : Onward xs line lsb last p q
  pub standing : ProgressBounds xs last q

pub going_begun : {xs : List ℕ} {line : ℕ} {lsb : Bool} {last : ℕ} {p : Progress} → ProgressBounds xs last p → Going xs line lsb last p p
going_begun s = record { onward = still_there; standing = s }

module _ {xs : List ℕ} {line : ℕ} {lsb : Bool} {last : ℕ} {p q : Progress} (g : Going xs line lsb last p q) where
  pub going_join : {r : Progress} → Going xs line lsb last q r → Going xs line lsb last p r
  going_join h = record { onward = onward_join g.onward h.onward; standing = h.standing }

  pub going_idle : q.at < length xs → get_or xs q.at 0 % 2 ≡ 0 → get_or xs q.at 0 % 4 ≤ q.level
      → Going xs line lsb last p (progress (get_or xs q.at 0 % 4) q.bits q.value (q.at + 1))
  going_idle h e k = record { onward = onward_join g.onward (onward_idle q h e k); standing = standing_idle g.standing h e }

  pub going_bit : q.at < length xs → get_or xs q.at 0 % 2 ≡ 0 → q.level < get_or xs q.at 0 % 4 → (q.bits ≡ last → ⊥)
      → Going xs line lsb last p (progress (get_or xs q.at 0 % 4) (q.bits + 1)
      (shifted_in lsb q.value q.bits (bit_at (get_or xs q.at 0) line)) (q.at + 1))
  going_bit h e k n =
      let b : q.bits < last = omega (arith, n, g.standing.few) in
      record { onward = onward_join g.onward (onward_bit q h e k b); standing = standing_bit lsb (bit_at (get_or xs q.at 0) line) g.standing h e b }

  pub took_high : get_or xs q.at 0 % 2 ≡ 1 → LowScanAfter xs line lsb last p q
  took_high h = record { onward = g.onward; standing = g.standing; stopped = λ k e. absurd (omega (arith, h, e)) }

  pub took_last : q.bits ≡ last → q.level < get_or xs q.at 0 % 4 → LowScanAfter xs line lsb last p q
  took_last b h = record { onward = g.onward; standing = g.standing; stopped = λ k e. (b, h) }

  pub took_join : {r : Progress} → LowScanAfter xs line lsb last q r → LowScanAfter xs line lsb last p r
  took_join t = record { onward = onward_join g.onward t.onward; standing = t.standing; stopped = t.stopped }

-- ---- the port itself as a progress

last_bits : (p : Phase) (n : ℕ) → n < width_of p → (n ≤ last_of p) × (last_of p < 16)
last_bits Rest n h = (omega arith, omega arith)
last_bits Instruction n h = (omega arith, omega arith)
last_bits Data n h = (omega arith, omega arith)

pub port_level : (sclk : Bool) → Level (cond sclk 2 0)
port_level true = record { even = refl; small = omega arith }
port_level false = record { even = refl; small = omega arith }

pub start_standing : (c : Chip) (s : Port) {xs : List ℕ} {last : ℕ} (p : Progress) → sound_port c s ≡ true → p.at ≤ length xs
    → p.level ≡ cond s.sclk 2 0 → p.bits ≡ s.bits → p.value ≡ s.value → last ≡ last_of s.phase → ProgressBounds xs last p
start_standing c s p f h el eb ev ea =
    let k = fit_sound c s f in
    let b = last_bits s.phase s.bits k.unfinished in
    record {
      level = rw el (port_level s.sclk);
      within = h;
      few = omega (arith, b.0, ea, eb);
      short = omega (arith, b.1, ea);
      small = rw (eb, ev) k.small;
    }

-- ---- a scan by CSB

pub scan_high : {xs : List ℕ} {csb : Bool} {line : ℕ} {lsb : Bool} {last : ℕ} (p : Progress) (q : Past) → csb ≡ true → Rested xs p.level p.at q
    → ScanAfter xs csb line lsb last p (progress q.level p.bits p.value q.at)
scan_high p q up h = record {
  ahead = h.past.high.ahead;
  within = h.past.high.within;
  carried = λ v r. rw h.level_is (past_high _ (sym v.csb_is ∙ up) p q.at r h.past.high);
  falls = λ e. h.past.falls;
  stopped = λ e. absurd (true≢false (sym up ∙ e));
}
