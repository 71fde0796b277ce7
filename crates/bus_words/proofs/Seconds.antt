-- Every second of eight samples: four bits, wherever their line is.
use mathlib.Core.Path.{◌≡◌, refl, sym, ◌∙◌, ap, ap₂}
use mathlib.Core.Bool.{Bool, true, false}
use mathlib.Core.List.{List}
use Prim.Native.Nat.{ℕ, zero, suc, ◌+◌, ◌*◌, ◌/◌, ◌%◌, ◌^◌, ◌<◌}
use native.Mathlib.Omega.{arith}
use lib.Dec.{eqb}
use lib.ListN.{get_or}
use lib.Pow.{shr-shr, split}
use lib.Bits.{bit_and, bit_or, and_block, and_mask, and_zero_r}
use Rattle.base_bits.specs.Bits.{bit_at, bit_of}
use Rattle.base_bits.proofs.Laws.{bit_above, bit_under}
use Rattle.bus_words.specs.Words.{word_of}
use Rattle.bus_words.specs.Lanes.{nibble}
use Rattle.bus_words.proofs.Samples.{word_first, word_rest}

-- one in each of k lanes of two samples
abbrev ones : ℕ → ℕ
ones zero = 0
ones (suc k) = ones k * 65536 + 1

abbrev seconds_in : ℕ → ℕ → ℕ
seconds_in zero y = 0
seconds_in (suc k) y = seconds_in k (y / 65536) * 65536 + y % 2

seconds_mask : (k y : ℕ) → bit_and y (ones k) ≡ seconds_in k y
seconds_mask zero y = and_zero_r y
seconds_mask (suc k) y =
    let low : bit_and (y % 65536) 1 ≡ y % 2 = and_mask (y % 65536) 1 ∙ omega arith in
    ap (λ (x : ℕ). bit_and x (ones k * 65536 + 1)) (sym (split y 16))
    ∙ and_block 16 (y / 65536) (ones k) (y % 65536) 1 (omega arith) (omega arith)
    ∙ ap₂ (λ (a b : ℕ). a * 65536 + b) (seconds_mask k (y / 65536)) low

-- a digit as a bit
digit : (d : ℕ) → d < 2 → d ≡ bit_of (eqb d 1)
digit zero h = refl
digit (suc zero) h = refl
digit (suc (suc d)) h = absurd (omega arith)

-- the bit at a place, after a shift
shifted_bit : (w n k m : ℕ) → n + k ≡ m → w / 2 ^ n / 2 ^ k % 2 ≡ bit_of (bit_at w m)
unfolding bit_at
shifted_bit w n k m e =
    ap (λ (x : ℕ). x % 2) (shr-shr w n k ∙ ap (λ (j : ℕ). w / 2 ^ j) e) ∙ digit (w / 2 ^ m % 2) (omega arith)

abbrev gathered : ℕ → ℕ
gathered x =
    bit_or (bit_or (x * 2 % 18446744073709551616) (x / 65536) * 4 % 18446744073709551616) (bit_or (x * 2 % 18446744073709551616) (x / 65536) / 4294967296) % 16

gather : (a b c d : Bool) → gathered ((((0 + bit_of d) * 65536 + bit_of c) * 65536 + bit_of b) * 65536 + bit_of a) ≡ nibble a b c d
gather true true true true = refl
gather true true true false = refl
gather true true false true = refl
gather true true false false = refl
gather true false true true = refl
gather true false true false = refl
gather true false false true = refl
gather true false false false = refl
gather false true true true = refl
gather false true true false = refl
gather false true false true = refl
gather false true false false = refl
gather false false true true = refl
gather false false true false = refl
gather false false false true = refl
gather false false false false = refl

pub four_bits_are : (w line : ℕ) → gathered (bit_and (w / 2 ^ (8 + line)) 0x0001000100010001)
    ≡ nibble (bit_at w (8 + line)) (bit_at w (24 + line)) (bit_at w (40 + line)) (bit_at w (56 + line))
four_bits_are w line =
    let y = w / 2 ^ (8 + line) in
    let a : y % 2 ≡ bit_of (bit_at w (8 + line)) = ap (λ (x : ℕ). x % 2) (omega arith) ∙ shifted_bit w (8 + line) 0 (8 + line) (omega arith) in
    let b : y / 65536 % 2 ≡ bit_of (bit_at w (24 + line)) = shifted_bit w (8 + line) 16 (24 + line) (omega arith) in
    let c : y / 65536 / 65536 % 2 ≡ bit_of (bit_at w (40 + line)) =
    ap (λ (x : ℕ). x % 2) (shr-shr y 16 16) ∙ shifted_bit w (8 + line) 32 (40 + line) (omega arith) in
    let d : y / 65536 / 65536 / 65536 % 2 ≡ bit_of (bit_at w (56 + line)) =
    ap (λ (x : ℕ). x % 2) (ap (λ (x : ℕ). x / 65536) (shr-shr y 16 16) ∙ shr-shr y 32 16) ∙ shifted_bit w (8 + line) 48 (56 + line) (omega arith) in
    let all : bit_and y 0x0001000100010001
    ≡ (((0 + bit_of (bit_at w (56 + line))) * 65536 + bit_of (bit_at w (40 + line))) * 65536 + bit_of (bit_at w (24 + line))) * 65536 + bit_of (bit_at w (8 + line)) =
    seconds_mask 4 y ∙ (λ t. (((0 + d t) * 65536 + c t) * 65536 + b t) * 65536 + a t) in
    ap gathered all ∙ gather (bit_at w (8 + line)) (bit_at w (24 + line)) (bit_at w (40 + line)) (bit_at w (56 + line))

-- a bit of a word is one of its sample
pub lane_bit : (xs : List ℕ) → ((k : ℕ) → get_or xs k 0 < 256) → (j k i line : ℕ) → j < k → line < 8
    → bit_at (word_of xs i k) (8 * j + line) ≡ bit_at (get_or xs (i + j) 0) line
lane_bit xs bytes zero zero i line h l = absurd (omega arith)
lane_bit xs bytes zero (suc k) i line h l =
    let e : 8 * 0 + line ≡ line = omega arith in
    let a : i ≡ i + 0 = omega arith in
    ap (bit_at (word_of xs i (suc k))) e ∙ sym (bit_under (word_of xs i (suc k)) 8 line l) ∙ ap (λ (x : ℕ). bit_at x line) (word_first xs bytes i k)
    ∙ ap (λ (m : ℕ). bit_at (get_or xs m 0) line) a
lane_bit xs bytes (suc j) zero i line h l = absurd (omega arith)
lane_bit xs bytes (suc j) (suc k) i line h l =
    let e : 8 * suc j + line ≡ 8 + (8 * j + line) = omega arith in
    let a : i + 1 + j ≡ i + suc j = omega arith in
    ap (bit_at (word_of xs i (suc k))) e ∙ sym (bit_above (word_of xs i (suc k)) 8 (8 * j + line))
    ∙ ap (λ (x : ℕ). bit_at x (8 * j + line)) (word_rest xs bytes i k)
    ∙ lane_bit xs bytes j k (i + 1) line (omega arith) l ∙ ap (λ (m : ℕ). bit_at (get_or xs m 0) line) a
