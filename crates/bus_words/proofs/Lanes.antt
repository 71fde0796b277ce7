-- Masks of eight samples, lane by lane: each law is proved once over the lanes, the lowest first.
use mathlib.Core.Path.{◌≡◌, refl, sym, ◌∙◌, ap, ap₂}
use Prim.Native.Nat.{ℕ, zero, suc, ◌+◌, ◌-◌, ◌*◌, ◌/◌, ◌%◌, ◌^◌, ◌<◌, ◌≤◌}
use native.Mathlib.Omega.{arith}
use native.Mathlib.Nat.{pow-suc, suc-add, zero-add, zero-sub, mul_assoc, mul_right_comm, add-mul, one-mul, mod_self}
use lib.Pow.{pow_pos, high, low, split, shr-shr, field, mod-mod-pow}
use lib.Bits.{bit_and, bit_or, bit_xor, and_block, xor_block, and_mask, and_high, and_self, and_shifted, and_zero_r, or_shifted, xor_lt, shifted_half, shifted_even}
use lib.Count.{under, count_trailing_zeros, trailing_le, trailing_of_zero}
use borrow.Author.Tests.{eq-eqb, ne_eqb}
use Rattle.bus_words.specs.Lanes.{clock_of, Level, levels_in, highs_in, lows_in, level_in, rises_in}

-- ---- one lane and those above it

and_lane : (a b r s : ℕ) → r < 256 → s < 256 → bit_and (a * 256 + r) (b * 256 + s) ≡ bit_and a b * 256 + bit_and r s
and_lane a b r s h k = and_block 8 a b r s h k

xor_lane : (a b r s : ℕ) → r < 256 → s < 256 → bit_xor (a * 256 + r) (b * 256 + s) ≡ bit_xor a b * 256 + bit_xor r s
xor_lane a b r s h k = xor_block 8 a b r s h k

apart : (w : ℕ) → w / 256 * 256 + w % 256 ≡ w
apart w = split w 8

-- m in each of k lanes
abbrev pub each : ℕ → ℕ → ℕ
each m zero = 0
each m (suc k) = each m k * 256 + m

-- ---- the lowest bit that is set

-- t zeros more
zeros_shift : (t n a : ℕ) → count_trailing_zeros (t + n) (a * 2 ^ t) ≡ t + count_trailing_zeros n a
unfolding count_trailing_zeros
zeros_shift zero n a =
    let e : a * 2 ^ 0 ≡ a = omega arith in
    ap₂ count_trailing_zeros (zero-add n) e ∙ sym (zero-add (count_trailing_zeros n a))
zeros_shift (suc t) n a =
    ap (λ (k : ℕ). count_trailing_zeros k (a * 2 ^ suc t)) (suc-add t n)
    ∙ ap₂ under (shifted_even a t) (ap (count_trailing_zeros (t + n)) (shifted_half a t) ∙ zeros_shift t n a)
    ∙ sym (suc-add t (count_trailing_zeros n a))

zeros_odd : (n x : ℕ) → x % 2 ≡ 1 → count_trailing_zeros (suc n) x ≡ 0
unfolding count_trailing_zeros
zeros_odd n x e = ap (λ (d : ℕ). under d (count_trailing_zeros n (x / 2))) e

-- its place
pub zeros_lowest : (q t : ℕ) → t < 64 → count_trailing_zeros 64 ((q * 2 + 1) * 2 ^ t) ≡ t
zeros_lowest q t h =
    let w : 64 ≡ t + suc (63 - t) = omega arith in
    ap (λ (k : ℕ). count_trailing_zeros k ((q * 2 + 1) * 2 ^ t)) w
    ∙ zeros_shift t (suc (63 - t)) (q * 2 + 1)
    ∙ ap (λ (k : ℕ). t + k) (zeros_odd (63 - t) (q * 2 + 1) (omega arith))
    ∙ omega arith

-- and the others without it
pub without_lowest : (q t : ℕ) → bit_and ((q * 2 + 1) * 2 ^ t) ((q * 2 + 1) * 2 ^ t - 1) ≡ q * 2 ^ suc t
without_lowest q t =
    let p = pow_pos t in
    let f : (q * 2 + 1) * 2 ^ t ≡ q * 2 ^ suc t + 2 ^ t = parts (2 ^ t) (2 ^ suc t) (pow-suc 2 t) in
    let g : (q * 2 + 1) * 2 ^ t - 1 ≡ q * 2 ^ suc t + (2 ^ t - 1) = omega (arith, f, p) in
    ap₂ bit_and f g
    ∙ and_block (suc t) q q (2 ^ t) (2 ^ t - 1) (omega (arith, p, pow-suc 2 t)) (omega (arith, p, pow-suc 2 t))
    ∙ ap₂ (λ (a b : ℕ). a * 2 ^ suc t + b) (and_self q) (and_mask (2 ^ t) t ∙ mod_self (2 ^ t))
    ∙ omega arith
  where
    parts : (x y : ℕ) → y ≡ x * 2 → (q * 2 + 1) * x ≡ q * y + x
    parts x y e =
        add-mul (q * 2) 1 x ∙ ap₂ (λ (a b : ℕ). a + b) (mul_right_comm q 2 x ∙ mul_assoc q x 2 ∙ ap (λ (m : ℕ). q * m) (sym e)) (one-mul x)

-- ---- CSB and SCLK

pub levels_mask : (k w : ℕ) → bit_and w (each 3 k) ≡ levels_in k w
unfolding levels_in
levels_mask zero w = and_zero_r w
levels_mask (suc k) w =
    let low : bit_and (w % 256) 3 ≡ w % 4 = and_mask (w % 256) 2 ∙ omega arith in
    ap (λ (x : ℕ). bit_and x (each 3 k * 256 + 3)) (sym (apart w))
    ∙ and_lane (w / 256) (each 3 k) (w % 256) 3 (omega arith) (omega arith)
    ∙ ap₂ (λ (a b : ℕ). a * 256 + b) (levels_mask k (w / 256)) low

-- ---- CSB

pub highs_mask : (k w : ℕ) → bit_and w (each 1 k) ≡ highs_in k w
unfolding highs_in
highs_mask zero w = and_zero_r w
highs_mask (suc k) w =
    let low : bit_and (w % 256) 1 ≡ w % 2 = and_mask (w % 256) 1 ∙ omega arith in
    ap (λ (x : ℕ). bit_and x (each 1 k * 256 + 1)) (sym (apart w))
    ∙ and_lane (w / 256) (each 1 k) (w % 256) 1 (omega arith) (omega arith)
    ∙ ap₂ (λ (a b : ℕ). a * 256 + b) (highs_mask k (w / 256)) low

-- the lowest sample has CSB low, or high
pub lows_more : (k w : ℕ) → w % 2 ≡ 0 → lows_in (suc k) w ≡ suc (lows_in k (w / 256))
unfolding lows_in
lows_more k w e = rw (eq-eqb (w % 2) 0 e) refl

pub lows_none : (k w : ℕ) → w % 2 ≡ 1 → lows_in (suc k) w ≡ 0
unfolding lows_in
lows_none k w e = rw (ne_eqb (w % 2) 0 (λ (z : w % 2 ≡ 0). omega arith)) refl

pub by_low : (P : ℕ → Type 0) (w : ℕ) → (w % 2 ≡ 0 → P w) → (w % 2 ≡ 1 → P w) → P w
by_low P w f g = go (w % 2) refl (omega arith)
  where
    go : (d : ℕ) → w % 2 ≡ d → d < 2 → P w
    go zero e h = f e
    go (suc zero) e h = g e
    go (suc (suc d)) e h = absurd (omega arith)

-- the lanes before the first that is set, by the trailing zeros
pub lows_zeros : (k w : ℕ) → count_trailing_zeros (8 * k) (highs_in k w) ≡ 8 * lows_in k w
unfolding highs_in count_trailing_zeros lows_in
lows_zeros zero w = refl
lows_zeros (suc k) w =
    by_low (λ (v : ℕ). count_trailing_zeros (8 * suc k) (highs_in k (v / 256) * 256 + v % 2) ≡ 8 * lows_in (suc k) v) w
    (λ e.
    let f : 8 * suc k ≡ 8 + 8 * k = omega arith in
    let g : highs_in k (w / 256) * 256 + w % 2 ≡ highs_in k (w / 256) * 256 = omega arith in
    ap₂ count_trailing_zeros f g ∙ zeros_shift 8 (8 * k) (highs_in k (w / 256)) ∙ omega (arith, lows_zeros k (w / 256), lows_more k w e))
    (λ e.
    let f : 8 * suc k ≡ suc (7 + 8 * k) = omega arith in
    ap (λ (n : ℕ). count_trailing_zeros n (highs_in k (w / 256) * 256 + w % 2)) f
    ∙ zeros_odd (7 + 8 * k) (highs_in k (w / 256) * 256 + w % 2) (omega arith) ∙ omega (arith, lows_none k w e))

pub lows_le : (k w : ℕ) → lows_in k w ≤ k
lows_le k w = omega (arith, lows_zeros k w, trailing_le (8 * k) (highs_in k w))

-- where none is set, all are before it
pub lows_all : (k w : ℕ) → highs_in k w ≡ 0 → lows_in k w ≡ k
lows_all k w e = omega (arith, lows_zeros k w, ap (count_trailing_zeros (8 * k)) e, trailing_of_zero (8 * k))

-- and only there
pub lows_full : (k w : ℕ) → lows_in k w ≡ k → highs_in k w ≡ 0
unfolding highs_in
lows_full zero w e = refl
lows_full (suc k) w e =
    by_low (λ (v : ℕ). highs_in k (w / 256) * 256 + w % 2 ≡ 0) w (λ z. omega (arith, z, lows_full k (w / 256) (omega (arith, e, lows_more k w z))))
    (λ z. absurd (omega (arith, e, lows_none k w z)))

-- ---- SCLK

pub clock_level : (w : ℕ) → Level (clock_of w)
clock_level w = record { even = omega arith; small = omega arith }

-- SCLK of k samples, and of those before each of them
abbrev clocks_in : ℕ → ℕ → ℕ
clocks_in zero w = 0
clocks_in (suc k) w = clocks_in k (w / 256) * 256 + clock_of w

abbrev before_in : ℕ → ℕ → ℕ → ℕ
before_in zero l w = 0
before_in (suc k) l w = before_in k (clock_of w) (w / 256) * 256 + l

-- SCLK of one sample, by a mask
pub clock_mask : (x : ℕ) → bit_and x 2 ≡ clock_of x
clock_mask x = and_high x 1 1

clocks_mask : (k w : ℕ) → bit_and w (each 2 k) ≡ clocks_in k w
clocks_mask zero w = and_zero_r w
clocks_mask (suc k) w =
    let low : bit_and (w % 256) 2 ≡ clock_of w = and_high (w % 256) 1 1 ∙ omega arith in
    ap (λ (x : ℕ). bit_and x (each 2 k * 256 + 2)) (sym (apart w))
    ∙ and_lane (w / 256) (each 2 k) (w % 256) 2 (omega arith) (omega arith)
    ∙ ap₂ (λ (a b : ℕ). a * 256 + b) (clocks_mask k (w / 256)) low

-- the highest lane leaves the word
moved_up : (a b c d e f g h : ℕ) → a < 256 → b < 256 → c < 256 → d < 256 → e < 256 → f < 256 → g < 256
    → ((((((((0 + h) * 256 + g) * 256 + f) * 256 + e) * 256 + d) * 256 + c) * 256 + b) * 256 + a) * 256 % 18446744073709551616
    ≡ (((((((0 + g) * 256 + f) * 256 + e) * 256 + d) * 256 + c) * 256 + b) * 256 + a) * 256
moved_up a b c d e f g h ha hb hc hd he hf hg = omega arith

-- SCLK of the sample above k others
level_above : (k l w : ℕ) → clock_of (w / 2 ^ (8 * k)) ≡ level_in (suc k) l w
unfolding level_in
level_above zero l w = omega arith
level_above (suc k) l w =
    let e : 8 + 8 * k ≡ 8 * suc k = omega arith in
    ap clock_of (sym (shr-shr w 8 (8 * k) ∙ ap (λ (m : ℕ). w / 2 ^ m) e)) ∙ level_above k (clock_of w) (w / 256)

-- the highest sample, which leaves the word, is not asked for
low_lanes : (k w : ℕ) → k < 7 → clock_of (w % 2 ^ 56 / 2 ^ (8 * k)) ≡ clock_of (w / 2 ^ (8 * k))
low_lanes k w h =
    let e : 56 ≡ 54 - 8 * k + 2 + 8 * k = omega arith in
    let f = ap (λ (m : ℕ). w % 2 ^ m / 2 ^ (8 * k)) e ∙ field w (54 - 8 * k + 2) (8 * k) in
    omega (arith, f, mod-mod-pow (w / 2 ^ (8 * k)) (54 - 8 * k) 2)

pub level_mask : (k l w : ℕ) → Level l → k < 8 → bit_and (bit_or (w * 2 ^ 8 % 18446744073709551616) l / 2 ^ (8 * k)) 2 ≡ level_in k l w
unfolding level_in
level_mask k l w h g =
    let m = w % 2 ^ 56 in
    let e : w * 2 ^ 8 % 18446744073709551616 ≡ m * 256 = omega arith in
    clock_mask _ ∙ ap (λ (x : ℕ). clock_of (x / 2 ^ (8 * k))) (ap (λ (x : ℕ). bit_or x l) e ∙ or_shifted m 8 l (omega (arith, h.small))) ∙ by k g
  where
    by : (k : ℕ) → k < 8 → clock_of ((w % 2 ^ 56 * 256 + l) / 2 ^ (8 * k)) ≡ level_in k l w
    by zero g = omega (arith, h.even, h.small)
    by (suc k) g =
        let e : 8 + 8 * k ≡ 8 * suc k = omega arith in
        let a : (w % 2 ^ 56 * 256 + l) / 2 ^ 8 ≡ w % 2 ^ 56 = omega (arith, h.small) in
        ap clock_of (sym (shr-shr (w % 2 ^ 56 * 256 + l) 8 (8 * k) ∙ ap (λ (n : ℕ). (w % 2 ^ 56 * 256 + l) / 2 ^ n) e) ∙ ap (λ (x : ℕ). x / 2 ^ (8 * k)) a)
        ∙ low_lanes k w (omega arith) ∙ level_above k l w

-- 2 where SCLK is low before and high now
lane_rise : (d e : ℕ) → d < 2 → e < 2 → bit_and (d * 2) (bit_xor (d * 2) (e * 2)) ≡ d * 2 - e * 2
lane_rise zero zero h k = refl
lane_rise zero (suc zero) h k = refl
lane_rise zero (suc (suc e)) h k = absurd (omega arith)
lane_rise (suc zero) zero h k = refl
lane_rise (suc zero) (suc zero) h k = refl
lane_rise (suc zero) (suc (suc e)) h k = absurd (omega arith)
lane_rise (suc (suc d)) e h k = absurd (omega arith)

rises_lanes : (k l w : ℕ) → Level l → bit_and (clocks_in k w) (bit_xor (clocks_in k w) (before_in k l w)) ≡ rises_in k l w
unfolding rises_in
rises_lanes zero l w h = refl
rises_lanes (suc k) l w h =
    let half : l ≡ l / 2 * 2 = omega (arith, h.even) in
    let low : bit_and (clock_of w) (bit_xor (clock_of w) l) ≡ clock_of w - l =
    ap (λ (m : ℕ). bit_and (clock_of w) (bit_xor (clock_of w) m)) half ∙ lane_rise (w / 2 % 2) (l / 2) (omega arith) (omega (arith, h.small))
    ∙ ap (λ (m : ℕ). clock_of w - m) (sym half) in
    ap (bit_and (clocks_in k (w / 256) * 256 + clock_of w))
    (xor_lane (clocks_in k (w / 256)) (before_in k (clock_of w) (w / 256)) (clock_of w) l (omega arith) (omega (arith, h.small)))
    ∙ and_lane (clocks_in k (w / 256)) _ (clock_of w) (bit_xor (clock_of w) l) (omega arith) (xor_lt 8 (clock_of w) l (omega arith) (omega (arith, h.small)))
    ∙ ap₂ (λ (a b : ℕ). a * 256 + b) (rises_lanes k (clock_of w) (w / 256) (clock_level w)) low

pub rises_mask : (l w : ℕ) → Level l
    → bit_and (bit_and w 0x0202020202020202) (bit_xor (bit_and w 0x0202020202020202) (bit_or (bit_and w 0x0202020202020202 * 2 ^ 8 % 18446744073709551616) l))
    ≡ rises_in 8 l w
rises_mask l w h =
    let before : bit_or (clocks_in 8 w * 2 ^ 8 % 18446744073709551616) l ≡ before_in 8 l w =
    ap (λ (m : ℕ). bit_or m l)
    (moved_up (clock_of w) (clock_of (w / 256)) (clock_of (w / 256 / 256)) (clock_of (w / 256 / 256 / 256)) (clock_of (w / 256 / 256 / 256 / 256))
    (clock_of (w / 256 / 256 / 256 / 256 / 256)) (clock_of (w / 256 / 256 / 256 / 256 / 256 / 256)) (clock_of (w / 256 / 256 / 256 / 256 / 256 / 256 / 256))
    (omega arith) (omega arith) (omega arith) (omega arith) (omega arith) (omega arith) (omega arith))
    ∙ or_shifted (clocks_in 7 w) 8 l (omega (arith, h.small)) in
    ap (λ (m : ℕ). bit_and m (bit_xor m (bit_or (m * 2 ^ 8 % 18446744073709551616) l))) (clocks_mask 8 w)
    ∙ ap (λ (m : ℕ). bit_and (clocks_in 8 w) (bit_xor (clocks_in 8 w) m)) before
    ∙ rises_lanes 8 l w h

-- ---- those before CSB is high

-- a rise stands beside CSB
disjoint : (k l w v : ℕ) → Level l → bit_and (rises_in k l w) (highs_in k v) ≡ 0
unfolding rises_in highs_in
disjoint zero l w v h = refl
disjoint (suc k) l w v h =
    let half : clock_of w - l ≡ (w / 2 % 2 - l / 2) * 2 = omega (arith, h.even, h.small) in
    let low : bit_and (clock_of w - l) (v % 2) ≡ 0 = ap (λ (m : ℕ). bit_and m (v % 2)) half ∙ and_shifted (w / 2 % 2 - l / 2) 1 (v % 2) (omega arith) in
    and_lane (rises_in k (clock_of w) (w / 256)) (highs_in k (v / 256)) (clock_of w - l) (v % 2) (omega arith) (omega arith)
    ∙ ap₂ (λ (a b : ℕ). a * 256 + b) (disjoint k (clock_of w) (w / 256) (v / 256) (clock_level w)) low

pub rises_cut : (k l w : ℕ) → Level l → (highs_in k w ≡ 0 → ⊥) → bit_and (rises_in k l w) (highs_in k w - 1) ≡ rises_in (lows_in k w) l w
unfolding highs_in rises_in
rises_cut zero l w h n = absurd (n refl)
rises_cut (suc k) l w h n =
    by_low (λ (v : ℕ). bit_and (rises_in (suc k) l w) (highs_in (suc k) w - 1) ≡ rises_in (lows_in (suc k) w) l w) w
    (λ e.
    let m : highs_in k (w / 256) ≡ 0 → ⊥ = λ (z : highs_in k (w / 256) ≡ 0). n (omega (arith, z, e)) in
    let g : highs_in k (w / 256) * 256 + w % 2 - 1 ≡ (highs_in k (w / 256) - 1) * 256 + 255 = omega (arith, m, e) in
    let low : bit_and (clock_of w - l) 255 ≡ clock_of w - l = and_mask (clock_of w - l) 8 ∙ omega arith in
    ap (bit_and (rises_in (suc k) l w)) g
    ∙ and_lane (rises_in k (clock_of w) (w / 256)) (highs_in k (w / 256) - 1) (clock_of w - l) 255 (omega arith) (omega arith)
    ∙ ap₂ (λ (a b : ℕ). a * 256 + b) (rises_cut k (clock_of w) (w / 256) (clock_level w) m) low
    ∙ ap (λ (j : ℕ). rises_in j l w) (sym (lows_more k w e)))
    (λ e.
    let g : highs_in k (w / 256) * 256 + w % 2 - 1 ≡ highs_in k (w / 256) * 256 + 0 = omega (arith, e) in
    ap (bit_and (rises_in (suc k) l w)) g
    ∙ and_lane (rises_in k (clock_of w) (w / 256)) (highs_in k (w / 256)) (clock_of w - l) 0 (omega arith) (omega arith)
    ∙ ap₂ (λ (a b : ℕ). a * 256 + b) (disjoint k (clock_of w) (w / 256) (w / 256) (clock_level w)) (and_zero_r (clock_of w - l))
    ∙ ap (λ (j : ℕ). rises_in j l w) (sym (lows_none k w e)))

-- ---- each bit in two samples

-- the samples of k bits, and their levels: SCLK low and then high, with CSB low
abbrev twice : ℕ → ℕ
twice zero = 0
twice (suc k) = suc (suc (twice k))

abbrev in_turn : ℕ → ℕ
in_turn zero = 0
in_turn (suc k) = (in_turn k * 256 + 2) * 256

csb_low : (d w : ℕ) → w % 4 ≡ d * 2 → (w % 2 ≡ 0) × (clock_of w ≡ d * 2)
csb_low d w e = (omega arith, omega arith)

same_lane : (a b r s : ℕ) → r < 256 → s < 256 → a * 256 + r ≡ b * 256 + s → (a ≡ b) × (r ≡ s)
same_lane a b r s h k e =
    (sym (high a 8 h) ∙ ap (λ (x : ℕ). x / 256) e ∙ high b 8 k, sym (low a 8 h) ∙ ap (λ (x : ℕ). x % 256) e ∙ low b 8 k)

-- no sample has CSB high, every second one is a rise, whatever the level before them, and SCLK is high after them
turns : (k l w : ℕ) → levels_in (twice k) w ≡ in_turn k → (highs_in (twice k) w ≡ 0) × (rises_in (twice k) l w ≡ in_turn k) × (level_in (twice k) 2 w ≡ 2)
unfolding levels_in highs_in rises_in level_in
turns zero l w e = (refl, refl, refl)
turns (suc k) l w e =
    let first = same_lane _ (in_turn k * 256 + 2) (w % 4) 0 (omega arith) (omega arith) (e ∙ omega arith) in
    let second = same_lane _ (in_turn k) (w / 256 % 4) 2 (omega arith) (omega arith) first.0 in
    let both = turns k (clock_of (w / 256)) (w / 256 / 256) second.0 in
    let a = csb_low 0 w first.1 in
    let b = csb_low 1 (w / 256) second.1 in (
      λ t. (both.0 t * 256 + b.0 t) * 256 + a.0 t,
      omega (arith, both.1, ap₂ ◌-◌ b.1 a.1, ap (λ (x : ℕ). x - l) a.1 ∙ zero-sub l),
      ap (λ (m : ℕ). level_in (twice k) m (w / 256 / 256)) b.1 ∙ both.2,
    )

pub dense_lanes : (l w : ℕ) → levels_in 8 w ≡ 0x0200020002000200 → (highs_in 8 w ≡ 0) × (rises_in 8 l w ≡ 0x0200020002000200) × (level_in 8 2 w ≡ 2)
dense_lanes = turns 4
