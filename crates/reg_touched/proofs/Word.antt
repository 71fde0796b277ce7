-- A word and its bits, once over the width.
use mathlib.Core.Path.{◌≡◌, refl, sym, ap, ap₂, ◌∙◌}
use mathlib.Core.Bool.{Bool, true, false, cond}
use mathlib.Core.List.{List, ◌∷◌}
use Prim.Native.Nat.{ℕ, zero, suc, ◌+◌, ◌-◌, ◌*◌, ◌/◌, ◌%◌, ◌^◌, ◌<◌, ◌≤◌, max}
use native.Mathlib.Omega.{arith}
use native.Mathlib.Nat.{pow-suc, add_comm}
use native.Mathlib.Numerals.{add-one}
use lib.Dec.{eqb}
use lib.ListN.{length, get_or, set, drop, replicate}
use lib.Bits.{bit_or, or_step, or_zero_r, shifted_half, shifted_even}
use lib.Count.{ones, ones_step, under, count_trailing_zeros}
use lib.Pow.{shr-shr}
use Rattle.base_bits.specs.Bits.{bit_at}
use Rattle.reg_touched.specs.Touched.{word_bits, trues, first_true}

pub length_word : (k x : ℕ) → length (word_bits k x) ≡ k
unfolding word_bits
length_word zero x = refl
length_word (suc k) x = ap suc (length_word k (x / 2))

one_down : (x j : ℕ) → x / 2 / 2 ^ j ≡ x / 2 ^ suc j
one_down x j = shr-shr x 1 j ∙ ap (λ (m : ℕ). x / 2 ^ m) (add_comm 1 j ∙ add-one j)

-- bit j of a word
pub word_bit : (k j x : ℕ) → j < k → get_or (word_bits k x) j false ≡ bit_at x j
unfolding word_bits bit_at
word_bit zero j x h = absurd (omega arith)
word_bit (suc k) zero x h = let e : x / 2 ^ 0 ≡ x = omega arith in sym (ap (λ (y : ℕ). eqb (y % 2) 1) e)
word_bit (suc k) (suc j) x h = word_bit k j (x / 2) (omega arith) ∙ ap (λ (y : ℕ). eqb (y % 2) 1) (one_down x j)

or_half : (a b : ℕ) → bit_or a b / 2 ≡ bit_or (a / 2) (b / 2)
or_half a b = omega (arith, or_step a b)

or_odd : (a b : ℕ) → bit_or a b % 2 ≡ max (a % 2) (b % 2)
or_odd a b = omega (arith, or_step a b)

-- one bit more
pub word_set : (k j x : ℕ) → j < k → word_bits k (bit_or x (1 * 2 ^ j)) ≡ set (word_bits k x) j true
unfolding word_bits
word_set zero j x h = absurd (omega arith)
word_set (suc k) zero x h =
    let low : max (x % 2) 1 ≡ 1 = omega arith in
    rw (or_odd x 1, or_half x 1, low, or_zero_r (x / 2))
word_set (suc k) (suc j) x h =
    let low : max (x % 2) 0 ≡ x % 2 = omega arith in
    rw (or_odd x (1 * 2 ^ suc j), or_half x (1 * 2 ^ suc j), shifted_even 1 j, shifted_half 1 j, low, word_set k j (x / 2) (omega arith))

-- a cleared word
pub word_clear : (k : ℕ) → word_bits k 0 ≡ replicate k false
unfolding word_bits
word_clear zero = refl
word_clear (suc k) = ap (λ (l : List Bool). false ∷ l) (word_clear k)

digit_one : (d : ℕ) → d < 2 → cond (eqb d 1) 1 0 ≡ d
digit_one zero h = refl
digit_one (suc zero) h = refl
digit_one (suc (suc d)) h = absurd (omega arith)

-- its ones
pub word_trues : (k x : ℕ) → x < 2 ^ k → trues (word_bits k x) ≡ ones x
unfolding word_bits trues ones
word_trues zero x h = let e : x ≡ 0 = omega arith in rw e
word_trues (suc k) x h =
    ap₂ (λ (a b : ℕ). a + b) (digit_one (x % 2) (omega arith)) (word_trues k (x / 2) (omega (arith, pow-suc 2 k))) ∙ sym (ones_step x)

digit_first : (d t u : ℕ) → d < 2 → t ≡ u → cond (eqb d 1) 0 (1 + t) ≡ under d u
digit_first zero t u h e = omega (arith, e)
digit_first (suc zero) t u h e = refl
digit_first (suc (suc d)) t u h e = absurd (omega arith)

-- its trailing zeros
pub word_first : (k x : ℕ) → first_true (word_bits k x) ≡ count_trailing_zeros k x
unfolding word_bits first_true count_trailing_zeros
word_first zero x = refl
word_first (suc k) x = digit_first (x % 2) _ _ (omega arith) (word_first k (x / 2))

-- no bit of 0 is set, and of another word one is
pub word_none : (k : ℕ) → first_true (word_bits k 0) ≡ k
unfolding word_bits first_true
word_none zero = refl
word_none (suc k) = omega (arith, word_none k)

some_digit : (d t k : ℕ) → d < 2 → (d ≡ 0 → t < k) → cond (eqb d 1) 0 (1 + t) < suc k
some_digit zero t k h f = omega (arith, f refl)
some_digit (suc zero) t k h f = omega arith
some_digit (suc (suc d)) t k h f = absurd (omega arith)

pub word_some : (k x : ℕ) → x < 2 ^ k → (x ≡ 0 → ⊥) → first_true (word_bits k x) < k
unfolding word_bits first_true
word_some zero x h n = absurd (n (omega arith))
word_some (suc k) x h n =
    some_digit (x % 2) _ k (omega arith) (λ e. word_some k (x / 2) (omega (arith, pow-suc 2 k)) (λ z. n (omega (arith, e, z))))

-- without its j lowest bits
pub word_drop : (k j x : ℕ) → j ≤ k → drop j (word_bits k x) ≡ word_bits (k - j) (x / 2 ^ j)
unfolding word_bits
word_drop k zero x h =
    let a : k - 0 ≡ k = omega arith in
    let b : x / 2 ^ 0 ≡ x = omega arith in
    sym (ap₂ word_bits a b)
word_drop zero (suc j) x h = absurd (omega arith)
word_drop (suc k) (suc j) x h =
    let a : k - j ≡ suc k - suc j = omega arith in
    word_drop k j (x / 2) (omega arith) ∙ ap₂ word_bits a (one_down x j)
