-- A scan of eight samples in one word, lane by lane: from rise to rise, whatever the chip and the port.
use mathlib.Core.Path.{◌≡◌, refl, sym, ◌∙◌, ap, ap₂, subst}
use mathlib.Core.Bool.{Bool}
use mathlib.Core.List.{List}
use Prim.Native.Nat.{ℕ, zero, suc, ◌+◌, ◌-◌, ◌*◌, ◌/◌, ◌%◌, ◌^◌, ◌<◌, ◌≤◌}
use native.Mathlib.Omega.{arith}
use native.Mathlib.Nat.{add-zero, mul_assoc, mul-pos}
use lib.ListN.{length, get_or}
use lib.Count.{count_trailing_zeros}
use lib.Pow.{pow-add, pow_pos}
use lib.Bits.{bit_and}
use Rattle.base_bits.specs.Bits.{bit_at, shifted_in}
use Rattle.bus_words.specs.Words.{word_of}
use Rattle.bus_words.specs.Lanes.{clock_of, Level, highs_in, level_in, rises_in}
use Rattle.bus_words.proofs.Lanes.{clock_level, clock_mask, zeros_lowest, without_lowest, lows_le, lows_all, lows_full}
use Rattle.bus_words.proofs.Samples.{rises_sample, lows_low, lows_high, level_in_lem}
use Rattle.bus_trace.specs.declared.scan.Progress.{Progress}
use Rattle.bus_trace.specs.declared.scan.Bits.{Bits}
use Rattle.bus_trace.specs.Scan.{progress, Onward, ProgressBounds, LowScanAfter, level_after, lows_at, RisesAhead, LanesTaken, BitsAfter}
use Rattle.bus_trace.proofs.Onward.{still_there, onward_join, onward_idle, onward_bit, standing_bit, Going, took_high, took_last}

abbrev mask_of : List ℕ → ℕ → ℕ → ℕ → ℕ → ℕ
mask_of xs n l i k = rises_in n l (word_of xs i k)

mask_same : (xs : List ℕ) {n n' l l' i i' k k' : ℕ} → n ≡ n' → l ≡ l' → i ≡ i' → k ≡ k' → mask_of xs n l i k ≡ mask_of xs n' l' i' k'
mask_same xs a b c d = λ t. mask_of xs (a t) (b t) (c t) (d t)

-- the samples up to the first rise, which is there: j of them
record First (xs : List ℕ) (line : ℕ) (lsb : Bool) (last n k : ℕ) (p : Progress) : Type 0 where
  pub passed : ℕ
  pub inside : passed < n
  pub reach : Onward xs line lsb last p (progress 0 p.bits p.value (p.at + passed))
  pub high : get_or xs (p.at + passed) 0 % 4 ≡ 2
  pub mask : mask_of xs n p.level p.at k ≡ (mask_of xs (n - suc passed) 2 (p.at + suc passed) (k - suc passed) * 128 + 1) * 2 ^ (8 * passed + 1)

power_next : (j : ℕ) → 2 ^ (8 * suc j + 1) ≡ 2 ^ (8 * j + 1) * 256
power_next j =
    let e : 8 * suc j + 1 ≡ 8 * j + 1 + 8 = omega arith in
    ap (λ (m : ℕ). 2 ^ m) e ∙ pow-add 2 (8 * j + 1) 8

-- the level after the first sample, and after some others
level_shift : (xs : List ℕ) (i l n : ℕ) → get_or xs i 0 % 2 ≡ 0 → level_after xs (i + 1) (get_or xs i 0 % 4) n ≡ level_after xs i l (suc n)
unfolding level_after
level_shift xs i l zero e =
    let a : get_or xs i 0 % 4 ≡ clock_of (get_or xs i 0) = omega (arith, e) in
    a ∙ ap (λ (m : ℕ). clock_of (get_or xs m 0)) (sym (add-zero i))
level_shift xs i l (suc n) e = let a : i + 1 + n ≡ i + suc n = omega arith in ap (λ (m : ℕ). clock_of (get_or xs m 0)) a

-- a product that is 0, where the other factor is not
zero_left : (a b : ℕ) → 0 < b → a * b ≡ 0 → a ≡ 0
zero_left zero b h e = refl
zero_left (suc a) b h e = absurd (omega (arith, e, mul-pos {m = suc a} {n = b} (omega arith) h))

module _ {xs : List ℕ} (bytes : (k : ℕ) → get_or xs k 0 < 256) {line : ℕ} {lsb : Bool} {last : ℕ} where
  -- the first sample gives the rise, or it is one of the others
  first_step : (n k : ℕ) (p : Progress) → Level p.level → p.at < length xs
      → get_or xs p.at 0 % 2 ≡ 0 → (d : ℕ) → clock_of (get_or xs p.at 0) - p.level ≡ d
      → (mask_of xs (suc n) p.level p.at (suc k) ≡ 0 → ⊥)
      → ((mask_of xs n (get_or xs p.at 0 % 4) (p.at + 1) k ≡ 0 → ⊥)
      → First xs line lsb last n k (progress (get_or xs p.at 0 % 4) p.bits p.value (p.at + 1)))
      → First xs line lsb last (suc n) (suc k) p
  first_step n k p hl h low zero e some others =
      let i = p.at in
      let x = get_or xs i 0 in
      let same : clock_of x ≡ x % 4 = omega (arith, low) in
      let parts : mask_of xs (suc n) p.level i (suc k) ≡ mask_of xs n (x % 4) (i + 1) k * 256 =
      rises_sample xs bytes n p.level i k ∙ ap₂ (λ (d r : ℕ). mask_of xs n d (i + 1) k * 256 + r) same e ∙ add-zero _ in
      let f = others (λ (z : mask_of xs n (x % 4) (i + 1) k ≡ 0). some (omega (arith, parts, z))) in
      let j = f.passed in
      let a : i + 1 + j ≡ i + suc j = omega arith in
      let q =
      mask_same xs {n = n - suc j} {n' = suc n - suc (suc j)} {l = 2} {i = i + 1 + suc j} {i' = i + suc (suc j)}
      {k = k - suc j} {k' = suc k - suc (suc j)} (omega arith) refl (omega arith) (omega arith) in
      record {
        passed = suc j;
        inside = omega (arith, f.inside);
        reach =
            onward_join (onward_idle p h low (omega (arith, e, same)))
            (subst (λ (m : ℕ). Onward xs line lsb last (progress (x % 4) p.bits p.value (i + 1)) (progress 0 p.bits p.value m)) a f.reach);
        high = subst (λ (m : ℕ). get_or xs m 0 % 4 ≡ 2) a f.high;
        mask =
            parts ∙ ap (λ (m : ℕ). m * 256) f.mask ∙ mul_assoc _ (2 ^ (8 * j + 1)) 256
            ∙ ap₂ (λ (a b : ℕ). (a * 128 + 1) * b) q (sym (power_next j));
      }
  first_step n k p hl h low (suc d) e some others =
      let i = p.at in
      let x = get_or xs i 0 in
      let two : clock_of x ≡ 2 = omega (arith, e, hl.even) in
      let same : clock_of x ≡ x % 4 = omega (arith, low) in
      let none : p.level ≡ 0 = omega (arith, e, hl.even, two) in
      let parts : mask_of xs (suc n) p.level i (suc k) ≡ mask_of xs n 2 (i + 1) k * 256 + 2 =
      rises_sample xs bytes n p.level i k ∙ ap₂ (λ (d r : ℕ). mask_of xs n d (i + 1) k * 256 + r) two (omega (arith, two, none)) in
      let q =
      mask_same xs {n = n} {n' = suc n - suc 0} {l = 2} {i = i + 1} {i' = i + suc 0}
      {k = k} {k' = suc k - suc 0} (omega arith) refl (omega arith) (omega arith) in
      record {
        passed = 0;
        inside = omega arith;
        reach = rw (none, add-zero i) still_there;
        high = subst (λ (m : ℕ). get_or xs m 0 % 4 ≡ 2) (sym (add-zero i)) (sym same ∙ two);
        mask = omega (arith, parts, q);
      }

  first_rise : (n k : ℕ) (p : Progress) → Level p.level → n ≤ k → p.at + n ≤ length xs → ((j : ℕ) → j < n → get_or xs (p.at + j) 0 % 2 ≡ 0)
      → (mask_of xs n p.level p.at k ≡ 0 → ⊥) → First xs line lsb last n k p
  unfolding rises_in
  first_rise zero k p hl hk h low some = absurd (some refl)
  first_rise (suc n) zero p hl hk h low some = absurd (omega arith)
  first_rise (suc n) (suc k) p hl hk h low some =
      let e = rw add-zero at (low 0 (omega arith)) in
      let x = get_or xs p.at 0 in
      first_step n k p hl (omega arith) e (clock_of x - p.level) refl some
      (λ z. first_rise n k (progress (x % 4) p.bits p.value (p.at + 1))
      (record { even = omega (arith, e); small = omega arith }) (omega arith) (omega arith)
      (λ j g. let a : p.at + suc j ≡ p.at + 1 + j = omega arith in rw a at (low (suc j) (omega arith))) z)

  rest_none : (p : Progress) → Onward xs line lsb last p (progress (level_after xs p.at p.level 0) p.bits p.value (p.at + 0))
  unfolding level_after
  rest_none p = rw (add-zero p.at) still_there

  -- no rise is left
  rest_idle : (n k : ℕ) (p : Progress) → Level p.level → n ≤ k → p.at + n ≤ length xs → ((j : ℕ) → j < n → get_or xs (p.at + j) 0 % 2 ≡ 0)
      → mask_of xs n p.level p.at k ≡ 0 → Onward xs line lsb last p (progress (level_after xs p.at p.level n) p.bits p.value (p.at + n))
  unfolding rises_in
  rest_idle zero k p hl hk h low none = rest_none p
  rest_idle (suc n) zero p hl hk h low none = absurd (omega arith)
  rest_idle (suc n) (suc k) p hl hk h low none =
      let e = rw add-zero at (low 0 (omega arith)) in
      let x = get_or xs p.at 0 in
      let parts = sym (rises_sample xs bytes n p.level p.at k) ∙ none in
      let same : clock_of x ≡ x % 4 = omega (arith, e) in
      let q : Progress = progress (x % 4) p.bits p.value (p.at + 1) in
      let a : p.at + 1 + n ≡ p.at + suc n = omega arith in
      let m : mask_of xs n (x % 4) (p.at + 1) k ≡ 0 = ap (λ (d : ℕ). mask_of xs n d (p.at + 1) k) (sym same) ∙ omega (arith, parts) in
      let r = rest_idle n k q (record { even = omega (arith, e); small = omega arith }) (omega arith) (omega arith)
      (λ j g. let b : p.at + suc j ≡ p.at + 1 + j = omega arith in rw b at (low (suc j) (omega arith))) m in
      onward_join (onward_idle p (omega arith) e (omega (arith, parts, same)))
      (subst (λ (z : Progress). Onward xs line lsb last q z) (λ t. progress (level_shift xs p.at p.level n e t) p.bits p.value (a t)) r)

-- the level after some samples, and after others
pub level_join : (xs : List ℕ) (i l j n : ℕ) → level_after xs (i + j) (level_after xs i l j) n ≡ level_after xs i l (j + n)
unfolding level_after
level_join xs i l j zero = ap (level_after xs i l) (sym (add-zero j))
level_join xs i l j (suc n) =
    let e : suc (j + n) ≡ j + suc n = omega arith in
    let a : i + j + n ≡ i + (j + n) = omega arith in
    ap (λ (m : ℕ). clock_of (get_or xs m 0)) a ∙ ap (level_after xs i l) e

abbrev pub taken_bits : ℕ → ℕ → ℕ → Bits
taken_bits bits value rising = record { bits = bits; value = value; rising = rising }

-- at first all rises are left
pub gathered_begun : {xs : List ℕ} {line : ℕ} {lsb : Bool} {last rises : ℕ} (p : Progress) → ProgressBounds xs last p → RisesAhead xs p rises
    → LanesTaken xs line lsb last p (taken_bits p.bits p.value rises)
unfolding level_after
gathered_begun {xs} {rises = rises} p s m =
    let i = p.at in
    let a : i ≡ i + 0 = omega arith in
    record {
      lane = 0;
      near = omega arith;
      left =
          m.mask
          ∙ mask_same xs {n = lows_at xs i} {n' = lows_at xs i - 0} {l = p.level} {i = i}
          {i' = i + 0} {k = 8} {k' = 8 - 0} (omega arith) refl (omega arith) (omega arith)
          ∙ omega arith;
      onward = rw (add-zero i) still_there;
      standing = rw (add-zero i) s;
    }

-- the next rise of those that are left
pub record Rise (xs : List ℕ) (line : ℕ) (lsb : Bool) (last : ℕ) (p : Progress) (r : Bits) : Type 0 where
  pub place : ℕ
  pub inside : place < lows_at xs p.at
  pub zeros : count_trailing_zeros 64 r.rising / 8 ≡ place
  pub reach : Onward xs line lsb last p (progress 0 r.bits r.value (p.at + place))
  pub high : get_or xs (p.at + place) 0 % 4 ≡ 2
  pub rest : bit_and r.rising (r.rising - 1) ≡ mask_of xs (lows_at xs p.at - suc place) 2 (p.at + suc place) (8 - suc place) * 2 ^ (8 * suc place)

-- a mask with its lowest bit at 8 * j + 1
odd_mask : (q j : ℕ) → (q * 128 + 1) * 2 ^ (8 * j + 1) ≡ (q * 64 * 2 + 1) * 2 ^ (8 * j + 1)
odd_mask q j = ap (λ (m : ℕ). m * 2 ^ (8 * j + 1)) (omega arith)

above_mask : (q j : ℕ) → q * 64 * 2 ^ suc (8 * j + 1) ≡ q * 2 ^ (8 * suc j)
above_mask q j =
    let e : 8 * suc j ≡ 6 + suc (8 * j + 1) = omega arith in
    mul_assoc q 64 (2 ^ suc (8 * j + 1)) ∙ ap (λ (m : ℕ). q * m) (sym (ap (λ (m : ℕ). 2 ^ m) e ∙ pow-add 2 6 (suc (8 * j + 1))))

module _ {xs : List ℕ} (bytes : (k : ℕ) → get_or xs k 0 < 256) {line : ℕ} {lsb : Bool} {last : ℕ} {p : Progress} {r : Bits}
    (room : p.at + 8 ≤ length xs) (g : LanesTaken xs line lsb last p r) where
  low_lane : (j : ℕ) → j < lows_at xs p.at - g.lane → get_or xs (p.at + g.lane + j) 0 % 2 ≡ 0
  low_lane j h =
      let a : p.at + (g.lane + j) ≡ p.at + g.lane + j = omega arith in
      rw a at (lows_low xs bytes 8 p.at (g.lane + j) (omega (arith, g.near)))

  pub next_rise : (r.rising ≡ 0 → ⊥) → Rise xs line lsb last p r
  next_rise some =
      let i = p.at in
      let n = lows_at xs i in
      let j₀ = g.lane in
      let l = level_after xs i p.level j₀ in
      let few = lows_le 8 (word_of xs i 8) in
      let f =
      first_rise bytes {line = line} {lsb = lsb} {last = last} (n - j₀) (8 - j₀) (progress l r.bits r.value (i + j₀))
      g.standing.level (omega (arith, few)) (omega (arith, few, g.near)) low_lane
      (λ (z : mask_of xs (n - j₀) l (i + j₀) (8 - j₀) ≡ 0). some (g.left ∙ ap (λ (m : ℕ). m * 2 ^ (8 * j₀)) z ∙ omega arith)) in
      let j = f.passed in
      let q = mask_of xs (n - j₀ - suc j) 2 (i + j₀ + suc j) (8 - j₀ - suc j) in
      let t = 8 * (j₀ + j) + 1 in
      let pw : 2 ^ (8 * j + 1) * 2 ^ (8 * j₀) ≡ 2 ^ t = sym (ap (λ (m : ℕ). 2 ^ m) (omega arith) ∙ pow-add 2 (8 * j + 1) (8 * j₀)) in
      let e : r.rising ≡ (q * 64 * 2 + 1) * 2 ^ t =
      g.left ∙ ap (λ (m : ℕ). m * 2 ^ (8 * j₀)) f.mask ∙ mul_assoc (q * 128 + 1) (2 ^ (8 * j + 1)) (2 ^ (8 * j₀))
      ∙ ap (λ (m : ℕ). (q * 128 + 1) * m) pw ∙ odd_mask q (j₀ + j) in
      let tz = ap (count_trailing_zeros 64) e ∙ zeros_lowest (q * 64) t (omega (arith, f.inside, few, g.near)) in
      let a : i + j₀ + j ≡ i + (j₀ + j) = omega arith in
      let s =
      mask_same xs {n = n - j₀ - suc j} {n' = n - suc (j₀ + j)} {l = 2} {i = i + j₀ + suc j} {i' = i + suc (j₀ + j)}
      {k = 8 - j₀ - suc j} {k' = 8 - suc (j₀ + j)} (omega arith) refl (omega arith) (omega arith) in
      record {
        place = j₀ + j;
        inside = omega (arith, f.inside, g.near);
        zeros = omega (arith, tz);
        reach =
            onward_join g.onward (subst (λ (m : ℕ). Onward xs line lsb last
            (progress l r.bits r.value (i + j₀)) (progress 0 r.bits r.value m)) a f.reach);
        high = subst (λ (m : ℕ). get_or xs m 0 % 4 ≡ 2) a f.high;
        rest = ap₂ (λ (a b : ℕ). bit_and a (b - 1)) e e ∙ without_lowest (q * 64) t ∙ above_mask q (j₀ + j) ∙ ap (λ (m : ℕ). m * 2 ^ (8 * suc (j₀ + j))) s;
      }

  -- a rise, before its bit is taken
  pub at_rise : (f : Rise xs line lsb last p r) → ProgressBounds xs last (progress 0 r.bits r.value (p.at + f.place))
  at_rise f = record {
    level = record { even = refl; small = omega arith };
    within = omega (arith, f.inside, lows_le 8 (word_of xs p.at 8));
    few = g.standing.few;
    short = g.standing.short;
    small = g.standing.small;
  }

  -- its bit is taken
  pub gathered_more : (f : Rise xs line lsb last p r) → r.bits < last
      → LanesTaken xs line lsb last p (taken_bits (r.bits + 1)
      (shifted_in lsb r.value r.bits (bit_at (get_or xs (p.at + f.place) 0) line)) (bit_and r.rising (r.rising - 1)))
  unfolding level_after
  gathered_more f h =
      let i = p.at in
      let j = f.place in
      let x = get_or xs (i + j) 0 in
      let few = lows_le 8 (word_of xs i 8) in
      let low : x % 2 ≡ 0 = omega (arith, f.high) in
      let same-level : clock_of x ≡ x % 4 = omega (arith, low) in
      let two = same-level ∙ f.high in
      let four = sym same-level in
      let v = shifted_in lsb r.value r.bits (bit_at x line) in
      let a : i + j + 1 ≡ i + suc j = omega arith in
      let here : i + j < length xs = omega (arith, f.inside, few) in
      let same : progress (x % 4) (r.bits + 1) v (i + j + 1) ≡ progress (clock_of x) (r.bits + 1) v (i + suc j) =
      λ t. progress (four t) (r.bits + 1) v (a t) in
      record {
        lane = suc j;
        near = f.inside;
        left = f.rest ∙ ap (λ (l : ℕ). mask_of xs (lows_at xs i - suc j) l (i + suc j) (8 - suc j) * 2 ^ (8 * suc j)) (sym two);
        onward =
            subst (λ (q : Progress). Onward xs line lsb last p q) same
            (onward_join f.reach (onward_bit (progress 0 r.bits r.value (i + j)) here low (omega (arith, f.high)) h));
        standing = subst (λ (q : Progress). ProgressBounds xs last q) same (standing_bit lsb (bit_at x line) (at_rise f) here low h);
      }

  -- no rise is left: up to the first sample with CSB high, or past all eight
  pub no_rise_left : r.rising ≡ 0
      → Onward xs line lsb last p (progress (level_after xs p.at p.level (lows_at xs p.at)) r.bits r.value (p.at + lows_at xs p.at))
  no_rise_left none =
      let i = p.at in
      let n = lows_at xs i in
      let j = g.lane in
      let l = level_after xs i p.level j in
      let few = lows_le 8 (word_of xs i 8) in
      let z : mask_of xs (n - j) l (i + j) (8 - j) ≡ 0 = zero_left _ (2 ^ (8 * j)) (pow_pos (8 * j)) (sym g.left ∙ none) in
      let o =
      rest_idle bytes {line = line} {lsb = lsb} {last = last} (n - j) (8 - j) (progress l r.bits r.value (i + j))
      g.standing.level (omega (arith, few)) (omega (arith, few, g.near)) low_lane z in
      let b : j + (n - j) ≡ n = omega (arith, g.near) in
      let a : i + j + (n - j) ≡ i + n = omega (arith, g.near) in
      let s = level_join xs i p.level j (n - j) ∙ ap (level_after xs i p.level) b in
      onward_join g.onward (subst (λ (y : Progress). Onward xs line lsb last (progress l r.bits r.value (i + j)) y)
      (λ t. progress (s t) r.bits r.value (a t)) o)

pub level_good : (xs : List ℕ) (i l n : ℕ) → Level l → Level (level_after xs i l n)
unfolding level_after
level_good xs i l zero h = h
level_good xs i l (suc n) h = clock_level (get_or xs (i + n) 0)

-- the level after eight samples, by the last of them
level_eight : (xs : List ℕ) (i l : ℕ) → level_after xs i l 8 ≡ bit_and (get_or xs (i + 7) 0) 2
unfolding level_after
level_eight xs i l = sym (clock_mask (get_or xs (i + 7) 0))

-- and after fewer, by the word that they are
pub level_word : (xs : List ℕ) → ((k : ℕ) → get_or xs k 0 < 256) → (k i l : ℕ) → k ≤ 8 → level_in k l (word_of xs i 8) ≡ level_after xs i l k
unfolding level_in level_after
level_word xs bytes zero i l h = refl
level_word xs bytes (suc k) i l h = level_in_lem xs bytes k 8 i l h

-- ---- one word of a scan

module _ {xs : List ℕ} (bytes : (k : ℕ) → get_or xs k 0 < 256) {line : ℕ} {lsb : Bool} {last : ℕ} {p₀ p : Progress} {b : Bits}
    (g : Going xs line lsb last p₀ p) (room : p.at + 8 ≤ length xs) (f : BitsAfter xs line lsb last p b) where
  -- it ends at a rise
  pub took_rise : (b.rising ≡ 0 → ⊥) → (k : ℕ) → k ≡ count_trailing_zeros 64 b.rising / 8
      → LowScanAfter xs line lsb last p₀ (progress 0 b.bits b.value (p.at + k))
  took_rise some k e =
      let r = next_rise bytes room f.gathered some in
      let at : r.place ≡ k = sym (e ∙ r.zeros) in
      let up : Going xs line lsb last p₀ (progress 0 b.bits b.value (p.at + r.place)) =
      record { onward = onward_join g.onward r.reach; standing = at_rise bytes room f.gathered r } in
      rw at at (took_last up (f.full some) (omega (arith, r.high)))

  -- no rise is left in it
  passed : b.rising ≡ 0 → (k l : ℕ) → k ≡ lows_at xs p.at → l ≡ level_after xs p.at p.level k
      → Going xs line lsb last p₀ (progress l b.bits b.value (p.at + k))
  passed none k l ek el =
      let s = f.gathered.standing in
      rw (el, ek)
      (record {
        onward = onward_join g.onward (no_rise_left bytes room f.gathered none);
        standing = record {
          level = level_good xs p.at p.level (lows_at xs p.at) g.standing.level;
          within = omega (arith, room, lows_le 8 (word_of xs p.at 8));
          few = s.few;
          short = s.short;
          small = s.small;
        };
      })

  -- it goes on after eight samples
  pub word_passed : b.rising ≡ 0 → highs_in 8 (word_of xs p.at 8) ≡ 0
      → Going xs line lsb last p₀ (progress (bit_and (get_or xs (p.at + 7) 0) 2) b.bits b.value (p.at + 8))
  word_passed none z = passed none 8 _ (sym (lows_all 8 (word_of xs p.at 8) z)) (sym (level_eight xs p.at p.level))

  -- it ends where CSB is high
  pub took_before_high : b.rising ≡ 0 → (highs_in 8 (word_of xs p.at 8) ≡ 0 → ⊥) → (k l : ℕ) → k ≡ lows_at xs p.at
      → l ≡ level_in k p.level (word_of xs p.at 8) → LowScanAfter xs line lsb last p₀ (progress l b.bits b.value (p.at + k))
  took_before_high none some k l ek el =
      let few = lows_le 8 (word_of xs p.at 8) in
      let full : lows_at xs p.at ≡ 8 → ⊥ = λ (z : lows_at xs p.at ≡ 8). some (lows_full 8 (word_of xs p.at 8) z) in
      let up = lows_high xs bytes 8 p.at (omega (arith, full, few)) in
      took_high (passed none k l ek (el ∙ level_word xs bytes k p.at p.level (omega (arith, ek, few)))) (rw ek up)
