-- Bit operators against the definitions, once over the width.
use mathlib.Core.Path.{◌≡◌, refl, ap, sym, ◌∙◌}
use mathlib.Core.Bool.{Bool, true, false, cond, xor}
use Prim.Native.Nat.{ℕ, zero, suc, ◌+◌, ◌-◌, ◌*◌, ◌/◌, ◌%◌, ◌^◌, ◌<◌, min, max}
use native.Mathlib.Omega.{arith}
use native.Mathlib.Nat.{pow-suc, add_comm, div-eq_of_lt, div-lt_iff_lt-mul}
use native.Mathlib.Numerals.{add-one}
use borrow.Author.Tests.{eq-eqb, ne_eqb, ltb-true, ltb-false}
use lib.Pow.{shl_exact, pow_pos, shr-shr, field, mod-mod-pow}
use mir.Val.{bool_byte}
use lib.Dec.{eqb, ltb}
use lib.Bits.{bit_and, bit_or, bit_xor, differ, or_step, and_step, xor_step, xor_shr, or_shifted, or_shifted_r}
use Rattle.base_bits.specs.Bits.{bit_at, bit_of, merged, shifted_in}

-- one bit of a merge: x of the old byte, y of the new one, z of the mask
one_bit : (x y z : ℕ) → x < 2 → y < 2 → z < 2 → max (min x (1 - z)) (min y z) ≡ cond (eqb z 1) y x
one_bit x y zero hx hy hz = omega arith
one_bit x y (suc zero) hx hy hz = omega arith
one_bit x y (suc (suc z)) hx hy hz = absurd (omega arith)

and_half : (a b : ℕ) → bit_and a b / 2 ≡ bit_and (a / 2) (b / 2)
and_half a b = omega (arith, and_step a b)

and_odd : (a b : ℕ) → bit_and a b % 2 ≡ min (a % 2) (b % 2)
and_odd a b = omega (arith, and_step a b)

lowest_bit : (x : ℕ) → bit_at x 0 ≡ eqb (x % 2) 1
unfolding bit_at
lowest_bit x = let e : x / 2 ^ 0 ≡ x = omega arith in ap (λ (k : ℕ). eqb (k % 2) 1) e

-- the complement of a mask: its half, and its lowest bit
rest_half : (w m : ℕ) → m < 2 ^ suc w → (2 ^ suc w - 1 - m) / 2 ≡ 2 ^ w - 1 - m / 2
rest_half w m h = omega (arith, pow-suc 2 w)

rest_odd : (w m : ℕ) → m < 2 ^ suc w → (2 ^ suc w - 1 - m) % 2 ≡ 1 - m % 2
rest_odd w m h = omega (arith, pow-suc 2 w)

half_lt : (w x : ℕ) → x < 2 ^ suc w → x / 2 < 2 ^ w
half_lt w x h = omega (arith, pow-suc 2 w)

-- (old & !mask) | (new & mask), of w bits
pub mask_merge : (w o n m : ℕ) → o < 2 ^ w → n < 2 ^ w → m < 2 ^ w → bit_or (bit_and o (2 ^ w - 1 - m)) (bit_and n m) ≡ merged w o n m
unfolding merged
mask_merge zero o n m ho hn hm =
    let eo : o ≡ 0 = omega arith in
    let en : n ≡ 0 = omega arith in
    rw (eo, en)
mask_merge (suc w) o n m ho hn hm =
    let low = one_bit (o % 2) (n % 2) (m % 2) (omega arith) (omega arith) (omega arith) in
    let high = mask_merge w (o / 2) (n / 2) (m / 2) (half_lt w o ho) (half_lt w n hn) (half_lt w m hm) in
    or_step (bit_and o (2 ^ suc w - 1 - m)) (bit_and n m) ∙ simp (and_half, and_odd, rest_half w m hm, rest_odd w m hm, low, high, lowest_bit)

byte_bit : (b : Bool) → bool_byte b ≡ bit_of b
byte_bit true = refl
byte_bit false = refl

bit_lt : (b : Bool) → bit_of b < 2
bit_lt true = omega arith
bit_lt false = omega arith

-- lowest bit first: the bit goes above those that are there
pub above : (v k : ℕ) (b : Bool) → k < 16 → v < 2 ^ k → bit_or v (bool_byte b * 2 ^ k % 65536) ≡ shifted_in true v k b
above v k b hk hv =
    rw (byte_bit, shl_exact 1 k 16 (bit_lt b) (omega arith)) (or_shifted_r (bit_of b) k v hv ∙ add_comm (bit_of b * 2 ^ k) v)

-- highest bit first: it goes below them
pub under : (v k : ℕ) (b : Bool) → k < 16 → v < 2 ^ k → bit_or (v * 2 % 65536) (bool_byte b) ≡ shifted_in false v k b
under v k b hk hv = rw (byte_bit, shl_exact k 1 16 hv (omega arith)) (or_shifted v 1 (bit_of b) (bit_lt b))

-- one bit more at most doubles the bound of the value
pub shifted_lt : (l : Bool) (v k : ℕ) (b : Bool) → v < 2 ^ k → shifted_in l v k b < 2 ^ (k + 1)
shifted_lt true v k true h = omega (arith, pow-suc 2 k, ap (λ (n : ℕ). 2 ^ n) (add-one k))
shifted_lt false v k true h = omega (arith, pow-suc 2 k, ap (λ (n : ℕ). 2 ^ n) (add-one k))
shifted_lt true v k false h = omega (arith, pow-suc 2 k, ap (λ (n : ℕ). 2 ^ n) (add-one k))
shifted_lt false v k false h = omega (arith, pow-suc 2 k, ap (λ (n : ℕ). 2 ^ n) (add-one k))

-- a quotient by 2 ^ k is 0 exactly where the number is below it
pub below_power : (v k : ℕ) → eqb (v / 2 ^ k) 0 ≡ ltb v (2 ^ k)
below_power v k = go (ltb v (2 ^ k)) refl
  where
    go : (b : Bool) → ltb v (2 ^ k) ≡ b → eqb (v / 2 ^ k) 0 ≡ b
    go true e = eq-eqb (v / 2 ^ k) 0 (div-eq_of_lt (ltb-true v (2 ^ k) e))
    go false e =
        ne_eqb (v / 2 ^ k) 0
        (λ (z : v / 2 ^ k ≡ 0). omega (arith, ltb-false v (2 ^ k) e, (div-lt_iff_lt-mul {x = v} {y = 1} (pow_pos k)).0 (omega arith)))

-- the half of a merge, and its lowest bit
merged_half : (w o n m : ℕ) → merged (suc w) o n m / 2 ≡ merged w (o / 2) (n / 2) (m / 2)
unfolding merged
merged_half w o n m = go (bit_at m 0)
  where
    go : (t : Bool) → (merged w (o / 2) (n / 2) (m / 2) * 2 + cond t (n % 2) (o % 2)) / 2 ≡ merged w (o / 2) (n / 2) (m / 2)
    go true = omega arith
    go false = omega arith

half_bit : (x i : ℕ) → bit_at x (suc i) ≡ bit_at (x / 2) i
unfolding bit_at
half_bit x i = ap (λ (k : ℕ). eqb (k % 2) 1) (ap (λ (k : ℕ). x / 2 ^ k) e ∙ sym (shr-shr x 1 i))
  where
    e : suc i ≡ 1 + i
    e = omega arith

-- The merge, bit by bit: below the width, bit i is that of new where the mask has a one, else that of old.
merged_low : (w o n m : ℕ) → bit_at (merged (suc w) o n m) 0 ≡ cond (bit_at m 0) (bit_at n 0) (bit_at o 0)
unfolding merged
merged_low w o n m = lowest_bit (merged (suc w) o n m) ∙ rw (lowest_bit n, lowest_bit o) (go (bit_at m 0))
  where
    rest : ℕ
    rest = merged w (o / 2) (n / 2) (m / 2)

    go : (t : Bool) → eqb ((rest * 2 + cond t (n % 2) (o % 2)) % 2) 1 ≡ cond t (eqb (n % 2) 1) (eqb (o % 2) 1)
    go true = let e : (rest * 2 + n % 2) % 2 ≡ n % 2 = omega arith in ap (λ (k : ℕ). eqb k 1) e
    go false = let e : (rest * 2 + o % 2) % 2 ≡ o % 2 = omega arith in ap (λ (k : ℕ). eqb k 1) e

pub merged_bit : (w o n m i : ℕ) → i < w → bit_at (merged w o n m) i ≡ cond (bit_at m i) (bit_at n i) (bit_at o i)
merged_bit zero o n m i h = absurd (omega arith)
merged_bit (suc w) o n m zero h = merged_low w o n m
merged_bit (suc w) o n m (suc i) h =
    half_bit (merged (suc w) o n m) i
    ∙ ap (λ (k : ℕ). bit_at k i) (merged_half w o n m)
    ∙ merged_bit w (o / 2) (n / 2) (m / 2) i (omega arith)
    ∙ sym (rw (half_bit m i, half_bit n i, half_bit o i))

-- the bits above place w, and those under it
pub bit_above : (x w i : ℕ) → bit_at (x / 2 ^ w) i ≡ bit_at x (w + i)
unfolding bit_at
bit_above x w i = ap (λ (k : ℕ). eqb (k % 2) 1) (shr-shr x w i)

pub bit_under : (x w i : ℕ) → i < w → bit_at (x % 2 ^ w) i ≡ bit_at x i
unfolding bit_at
bit_under x w i h =
    let e : w ≡ w - 1 - i + 1 + i = omega arith in
    ap (λ (k : ℕ). eqb (k % 2) 1) (ap (λ (k : ℕ). x % 2 ^ k / 2 ^ i) e ∙ field x (w - 1 - i + 1) i)
    ∙ ap (λ (k : ℕ). eqb k 1) (mod-mod-pow (x / 2 ^ i) (w - 1 - i) 1)

-- one bit of a difference, and what is above it
one_differs : (rest x y : ℕ) → x < 2 → y < 2 → eqb ((rest * 2 + differ x y) % 2) 1 ≡ xor (eqb x 1) (eqb y 1)
unfolding xor
one_differs rest zero zero hx hy = let e : (rest * 2 + 0) % 2 ≡ 0 = omega arith in ap (λ (k : ℕ). eqb k 1) e
one_differs rest zero (suc zero) hx hy = let e : (rest * 2 + 1) % 2 ≡ 1 = omega arith in ap (λ (k : ℕ). eqb k 1) e
one_differs rest (suc zero) zero hx hy = let e : (rest * 2 + 1) % 2 ≡ 1 = omega arith in ap (λ (k : ℕ). eqb k 1) e
one_differs rest (suc zero) (suc zero) hx hy = let e : (rest * 2 + 0) % 2 ≡ 0 = omega arith in ap (λ (k : ℕ). eqb k 1) e
one_differs rest (suc (suc x)) y hx hy = absurd (omega arith)
one_differs rest zero (suc (suc y)) hx hy = absurd (omega arith)
one_differs rest (suc zero) (suc (suc y)) hx hy = absurd (omega arith)

-- The difference of two numbers, bit by bit: bit i is one exactly where those of the two differ.
pub xor_bit : (a b i : ℕ) → bit_at (bit_xor a b) i ≡ xor (bit_at a i) (bit_at b i)
unfolding bit_at
xor_bit a b i =
    let x = a / 2 ^ i in
    let y = b / 2 ^ i in
    ap (λ (k : ℕ). eqb (k % 2) 1) (xor_shr a b i ∙ xor_step x y)
    ∙ one_differs (bit_xor (x / 2) (y / 2)) (x % 2) (y % 2) (omega arith) (omega arith)
