-- Eight samples as one number, and what its lanes say of each of them.
use mathlib.Core.Path.{◌≡◌, refl, sym, ◌∙◌, ap, ap₂}
use mathlib.Core.Bool.{Bool, true, false}
use mathlib.Core.List.{List}
use Prim.Native.Nat.{ℕ, zero, suc, ◌+◌, ◌-◌, ◌*◌, ◌/◌, ◌%◌, ◌^◌, ◌<◌, ◌≤◌}
use native.Mathlib.Omega.{arith}
use native.Mathlib.Nat.{add-zero, add_assoc}
use lib.Dec.{ltb}
use lib.ListN.{length, get_or}
use lib.Pow.{pow-add}
use borrow.Author.Tests.{ltb-true, ltb-false}
use Rattle.bus_words.specs.Words.{word_of, High}
use Rattle.bus_words.specs.Lanes.{clock_of, lows_in, level_in, rises_in}
use Rattle.bus_words.proofs.Lanes.{by_low, lows_more, lows_none}

-- eight places more
power : (k : ℕ) → 2 ^ (8 * suc k) ≡ 2 ^ (8 * k) * 256
power k =
    let e : 8 * suc k ≡ 8 * k + 8 = omega arith in
    ap (λ (n : ℕ). 2 ^ n) e ∙ pow-add 2 (8 * k) 8

-- words from a sample on, of which each has one bit at first and the word from the next sample on above it
module _ (word : ℕ → ℕ → ℕ) (bit : ℕ → ℕ) (first : (i k : ℕ) → word i (suc k) % 2 ≡ bit i) (rest : (i k : ℕ) → word i (suc k) / 256 ≡ word (i + 1) k) where
  -- the lanes before the first whose bit is one
  before_high : (k i j : ℕ) → j < lows_in k (word i k) → bit (i + j) ≡ 0
  unfolding lows_in
  before_high zero i j h = absurd (omega arith)
  before_high (suc k) i zero h =
      by_low (λ (v : ℕ). bit (i + 0) ≡ 0) (word i (suc k)) (λ e. rw add-zero (sym (first i k) ∙ e))
      (λ e. absurd (omega (arith, h, lows_none k (word i (suc k)) e)))
  before_high (suc k) i (suc j) h =
      by_low (λ (v : ℕ). bit (i + suc j) ≡ 0) (word i (suc k))
      (λ e.
      let f : i + 1 + j ≡ i + suc j = omega arith in
      let m = lows_more k (word i (suc k)) e ∙ ap (λ (w : ℕ). suc (lows_in k w)) (rest i k) in
      rw f at (before_high k (i + 1) j (omega (arith, m, h))))
      (λ e. absurd (omega (arith, h, lows_none k (word i (suc k)) e)))

  -- and that one
  at_high : (k i : ℕ) → lows_in k (word i k) < k → bit (i + lows_in k (word i k)) ≡ 1
  at_high zero i h = absurd (omega arith)
  at_high (suc k) i h =
      by_low (λ (v : ℕ). bit (i + lows_in (suc k) (word i (suc k))) ≡ 1) (word i (suc k))
      (λ e.
      let m = lows_more k (word i (suc k)) e ∙ ap (λ (w : ℕ). suc (lows_in k w)) (rest i k) in
      let f : i + 1 + lows_in k (word (i + 1) k) ≡ i + lows_in (suc k) (word i (suc k)) = omega (arith, m) in
      rw f at (at_high k (i + 1) (omega (arith, m, h))))
      (λ e.
      let f : i ≡ i + lows_in (suc k) (word i (suc k)) = omega (arith, lows_none k (word i (suc k)) e) in
      rw f at (sym (first i k) ∙ e))

-- k samples as one number, each bit the other way
abbrev pub others : List ℕ → ℕ → ℕ → ℕ
others xs i k = 2 ^ (8 * k) - 1 - word_of xs i k

module _ (xs : List ℕ) (bytes : (k : ℕ) → get_or xs k 0 < 256) where
  word_lt : (i k : ℕ) → word_of xs i k < 2 ^ (8 * k)
  unfolding word_of
  word_lt i zero = omega arith
  word_lt i (suc k) = rw (power k) (omega (arith, word_lt (i + 1) k, bytes i))

  -- eight samples, each worth 256 times the one before
  pub word_of_eight : (i : ℕ)
      → get_or xs i 0 + get_or xs (i + 1) 0 * 256 ^ 1 + get_or xs (i + 2) 0 * 256 ^ 2 + get_or xs (i + 3) 0 * 256 ^ 3
      + get_or xs (i + 4) 0 * 256 ^ 4 + get_or xs (i + 5) 0 * 256 ^ 5 + get_or xs (i + 6) 0 * 256 ^ 6 + get_or xs (i + 7) 0 * 256 ^ 7
      ≡ word_of xs i 8
  unfolding word_of
  word_of_eight i = simp add_assoc (omega arith)

  -- the first sample, and the others
  pub word_first : (i k : ℕ) → word_of xs i (suc k) % 256 ≡ get_or xs i 0
  unfolding word_of
  word_first i k = omega (arith, bytes i)

  pub word_rest : (i k : ℕ) → word_of xs i (suc k) / 256 ≡ word_of xs (i + 1) k
  unfolding word_of
  word_rest i k = omega (arith, bytes i)

  word_csb : (i k : ℕ) → word_of xs i (suc k) % 2 ≡ get_or xs i 0 % 2
  word_csb i k = omega (arith, word_first i k)

  -- the rises of one sample and of the others
  pub rises_sample : (n l i k : ℕ)
      → rises_in (suc n) l (word_of xs i (suc k)) ≡ rises_in n (clock_of (get_or xs i 0)) (word_of xs (i + 1) k) * 256 + (clock_of (get_or xs i 0) - l)
  unfolding rises_in
  rises_sample n l i k =
      let e : clock_of (word_of xs i (suc k)) ≡ clock_of (get_or xs i 0) = omega (arith, word_first i k) in
      ap₂ (λ (d w : ℕ). rises_in n d w * 256 + (d - l)) e (word_rest i k)

  -- the samples before the first with CSB high, and that one
  pub lows_low : (k i j : ℕ) → j < lows_in k (word_of xs i k) → get_or xs (i + j) 0 % 2 ≡ 0
  lows_low = before_high (word_of xs) (λ i. get_or xs i 0 % 2) word_csb word_rest

  pub lows_high : (k i : ℕ) → lows_in k (word_of xs i k) < k → get_or xs (i + lows_in k (word_of xs i k)) 0 % 2 ≡ 1
  lows_high = at_high (word_of xs) (λ i. get_or xs i 0 % 2) word_csb word_rest

  -- those before the first with CSB low, and that one: the same of all bits the other way
  others_csb : (i k : ℕ) → others xs i (suc k) % 2 ≡ 1 - get_or xs i 0 % 2
  others_csb i k = omega (arith, power k, word_lt i (suc k), word_csb i k)

  others_rest : (i k : ℕ) → others xs i (suc k) / 256 ≡ others xs (i + 1) k
  unfolding word_of
  others_rest i k = omega (arith, power k, word_lt (i + 1) k, bytes i)

  pub falls_high : (k i j : ℕ) → j < lows_in k (others xs i k) → get_or xs (i + j) 0 % 2 ≡ 1
  falls_high k i j h = omega (arith, before_high (others xs) (λ i. 1 - get_or xs i 0 % 2) others_csb others_rest k i j h)

  pub falls_low : (k i : ℕ) → lows_in k (others xs i k) < k → get_or xs (i + lows_in k (others xs i k)) 0 % 2 ≡ 0
  falls_low k i h = omega (arith, at_high (others xs) (λ i. 1 - get_or xs i 0 % 2) others_csb others_rest k i h)

  -- SCLK before a sample is that of the one before it
  pub level_in_lem : (k n i l : ℕ) → k < n → level_in (suc k) l (word_of xs i n) ≡ clock_of (get_or xs (i + k) 0)
  unfolding level_in
  level_in_lem k zero i l h = absurd (omega arith)
  level_in_lem zero (suc n) i l h = rw add-zero (omega (arith, word_first i n))
  level_in_lem (suc k) (suc n) i l h =
      let a : i + 1 + k ≡ i + suc k = omega arith in
      ap (level_in (suc k) (clock_of (word_of xs i (suc n)))) (word_rest i n) ∙ level_in_lem k n (i + 1) (clock_of (word_of xs i (suc n))) (omega arith)
      ∙ ap (λ (m : ℕ). clock_of (get_or xs m 0)) a

pub high_more : {xs : List ℕ} {i j n : ℕ} → High xs i j → j + n ≤ length xs → ((k : ℕ) → k < n → get_or xs (j + k) 0 % 2 ≡ 1) → High xs i (j + n)
high_more {xs} {i} {j} {n} a h f = record { ahead = omega (arith, a.ahead); within = h; all = λ k. at k (ltb k (j - i)) refl }
  where
    at : (k : ℕ) (early : Bool) → ltb k (j - i) ≡ early → k < j + n - i → get_or xs (i + k) 0 % 2 ≡ 1
    at k true t g = a.all k (ltb-true k (j - i) t)
    at k false t g =
        let late = ltb-false k (j - i) t in
        let e : j + (k - (j - i)) ≡ i + k = omega (arith, a.ahead) in
        rw e at (f (k - (j - i)) (omega (arith, a.ahead)))

pub high_none : {xs : List ℕ} {i : ℕ} → i ≤ length xs → High xs i i
high_none h = record { ahead = omega arith; within = h; all = λ k g. absurd (omega arith) }
