-- The bits of a number, taken in again, are the number: once over the width, for both bit orders.
use Prim.Native.Nat.{ℕ, zero, suc, ◌+◌, ◌*◌, ◌/◌, ◌%◌, ◌^◌, ◌<◌}
use mathlib.Core.Path.{◌≡◌, refl, ap, ◌∙◌}
use mathlib.Core.Bool.{Bool, true, false, cond}
use mathlib.Core.List.{List, [], ◌∷◌}
use native.Mathlib.Nat.{div-add-mod', div-eq_of_lt, mod-eq_of_lt, add-zero, zero-add, add_comm}
use native.Mathlib.Numerals.{add-one}
use native.Mathlib.Omega.{arith}
use lib.Dec.{eqb}
use lib.Pow.{shr-shr, mod-pow-add}
use Rattle.base_bits.specs.Bits.{bit_at, bit_of, shifted_in}
use Rattle.send_order.specs.Samples.{high_first, low_first, bits_of}

-- the value of n bits with some more taken
unfoldable pub taken_in : Bool → ℕ → ℕ → List Bool → ℕ
taken_in lsb value n [] = value
taken_in lsb value n (b ∷ bs) = taken_in lsb (shifted_in lsb value n b) (n + 1) bs

bit_number : (x i : ℕ) → bit_of (bit_at x i) ≡ x / 2 ^ i % 2
unfolding bit_at
bit_number x i = odd (x / 2 ^ i % 2) (omega arith)
  where
    odd : (y : ℕ) → y < 2 → cond (eqb y 1) 1 0 ≡ y
    odd zero h = refl
    odd (suc zero) h = refl
    odd (suc (suc y)) h = absurd (omega arith)

high_step : (w x : ℕ) → x / 2 ^ suc w * 2 + bit_of (bit_at x w) ≡ x / 2 ^ w
high_step w x = rw (bit_number x w, ← add-one w, ← shr-shr x w 1) (div-add-mod' (x / 2 ^ w) 2)

high_back : (w n x : ℕ) → taken_in false (x / 2 ^ w) n (high_first w x) ≡ x
unfolding taken_in high_first
high_back zero n x = omega arith
high_back (suc w) n x = ap (λ (v : ℕ). taken_in false v (n + 1) (high_first w x)) (high_step w x) ∙ high_back w (n + 1) x

low_step : (n x : ℕ) → x % 2 ^ n + bit_of (bit_at x n) * 2 ^ n ≡ x % 2 ^ (n + 1)
low_step n x = rw (bit_number x n, add_comm n 1, mod-pow-add x 1 n) (add_comm (x % 2 ^ n) (x / 2 ^ n % 2 * 2 ^ n))

low_back : (w n x : ℕ) → taken_in true (x % 2 ^ n) n (low_first n w x) ≡ x % 2 ^ (n + w)
unfolding taken_in low_first
low_back zero n x = rw add-zero
low_back (suc w) n x =
    let e : n + 1 + w ≡ n + suc w = omega arith in
    ap (λ (v : ℕ). taken_in true v (n + 1) (low_first (n + 1) w x)) (low_step n x) ∙ low_back w (n + 1) x ∙ ap (λ (k : ℕ). x % 2 ^ k) e

pub bits_back : (lsb : Bool) (w x : ℕ) → x < 2 ^ w → taken_in lsb 0 0 (bits_of lsb w x) ≡ x
unfolding bits_of
bits_back false w x h = rw (div-eq_of_lt h) at (high_back w 0 x)
bits_back true w x h =
    let z : x % 2 ^ 0 ≡ 0 = omega arith in
    rw (zero-add w, mod-eq_of_lt h, z) at (low_back w 0 x)
