-- Samples with CSB high: only the level of SCLK changes, to that of the last of them.
use mathlib.Core.Path.{◌≡◌, ◌∙◌, ap}
use mathlib.Core.List.{List}
use Prim.Native.Nat.{ℕ, suc, ◌+◌, ◌-◌, ◌%◌, ◌<◌, ◌≤◌}
use native.Mathlib.Omega.{arith}
use native.Mathlib.Nat.{add-zero}
use lib.ListN.{length, get_or}
use lib.Bits.{bit_and}
use Rattle.bus_words.specs.Words.{word_of, High}
use Rattle.bus_words.specs.Lanes.{clock_of, Level, highs_in, lows_in, level_in}
use Rattle.bus_words.proofs.Lanes.{clock_mask, lows_all, lows_full, lows_le}
use Rattle.bus_words.proofs.Samples.{others, falls_high, falls_low, high_more, high_none}
use Rattle.bus_trace.specs.declared.high.Past.{Past}
use Rattle.bus_trace.specs.Scan.{level_after, Rested}
use Rattle.bus_trace.proofs.Lanes.{level_join, level_good, level_word}

abbrev pub past : ℕ → ℕ → Past
past place level = record { at = place; level = level }

-- the samples from i up to j are passed, and leave level l
pub record Resting (xs : List ℕ) (l₀ i l j : ℕ) : Type 0 where
  pub high : High xs i j
  pub level_is : l ≡ level_after xs i l₀ (j - i)

pub resting_begun : {xs : List ℕ} (l i : ℕ) → i ≤ length xs → Resting xs l i l i
unfolding level_after
resting_begun {xs} l i h =
    let e : 0 ≡ i - i = omega arith in
    record { high = high_none h; level_is = ap (level_after xs i l) e }

module _ {xs : List ℕ} {l₀ i l j : ℕ} (r : Resting xs l₀ i l j) where
  -- so many more, the last of which has the level
  pub resting_more : (n : ℕ) → j + suc n ≤ length xs → ((k : ℕ) → k < suc n → get_or xs (j + k) 0 % 2 ≡ 1)
      → Resting xs l₀ i (bit_and (get_or xs (j + n) 0) 2) (j + suc n)
  unfolding level_after
  resting_more n h f =
      let a : j + n ≡ i + (j - i + n) = omega (arith, r.high.ahead) in
      let e : suc (j - i + n) ≡ j + suc n - i = omega (arith, r.high.ahead) in
      record {
        high = high_more r.high h f;
        level_is = clock_mask (get_or xs (j + n) 0) ∙ ap (λ (m : ℕ). clock_of (get_or xs m 0)) a ∙ ap (level_after xs i l₀) e;
      }

  pub resting_one : j < length xs → get_or xs j 0 % 2 ≡ 1 → Resting xs l₀ i (bit_and (get_or xs j 0) 2) (j + 1)
  resting_one h e =
      rw add-zero at
      (resting_more 0 (omega arith)
      (λ k g.
      let a : j ≡ j + k = omega arith in
      rw a at e))

  pub resting_level : Level l₀ → Level l
  resting_level h = rw r.level_is (level_good xs i l₀ (j - i) h)

  -- the level is that of a further place, and what is passed from here on is passed in all
  rested_on : (k : ℕ) → level_after xs j l k ≡ level_after xs i l₀ (j + k - i)
  rested_on k =
      let a : j ≡ i + (j - i) = omega (arith, r.high.ahead) in
      let e : j - i + k ≡ j + k - i = omega (arith, r.high.ahead) in
      (λ t. level_after xs (a t) (r.level_is t) k) ∙ level_join xs i l₀ (j - i) k ∙ ap (level_after xs i l₀) e

  pub rested_join : {q : Past} → Rested xs l j q → Rested xs l₀ i q
  rested_join {q} h =
      let n = q.at - j in
      let a : j + n ≡ q.at = omega (arith, h.past.high.ahead) in
      let up = h.past.high in
      record {
        past = record {
          high = rw a at (high_more r.high (omega (arith, a, up.within)) (λ k g. up.all k g));
          falls = h.past.falls;
        };
        level_is = h.level_is ∙ rested_on n ∙ ap (λ (m : ℕ). level_after xs i l₀ (m - i)) a;
      }

  module _ (bytes : (k : ℕ) → get_or xs k 0 < 256) (room : j + 8 ≤ length xs) where
    -- eight more, of which none has CSB low
    pub resting_word : highs_in 8 (others xs j 8) ≡ 0 → Resting xs l₀ i (bit_and (get_or xs (j + 7) 0) 2) (j + 8)
    resting_word e = resting_more 7 room (λ k h. falls_high xs bytes 8 j k (omega (arith, h, lows_all 8 (others xs j 8) e)))

    pub fall_inside : (highs_in 8 (others xs j 8) ≡ 0 → ⊥) → lows_in 8 (others xs j 8) < 8
    fall_inside some =
        let full : lows_in 8 (others xs j 8) ≡ 8 → ⊥ = λ (z : lows_in 8 (others xs j 8) ≡ 8). some (lows_full 8 (others xs j 8) z) in
        omega (arith, full, lows_le 8 (others xs j 8))

    -- up to the first of them that has it low
    pub rested_word : (highs_in 8 (others xs j 8) ≡ 0 → ⊥) → (k m : ℕ) → k ≡ lows_in 8 (others xs j 8)
        → m ≡ level_in k l (word_of xs j 8) → Rested xs l₀ i (past (j + k) m)
    rested_word some k m ek em =
        let g = fall_inside some in
        record {
          past = record {
            high = high_more r.high (omega (arith, ek, g)) (λ n h. falls_high xs bytes 8 j n (omega (arith, h, ek)));
            falls = λ h. rw ek (falls_low xs bytes 8 j g);
          };
          level_is = em ∙ level_word xs bytes k j l (omega (arith, ek, g)) ∙ rested_on k;
        }
