-- A rule of a table, proved once: a test that is computed at every entry gives the rule at each.
use mathlib.Core.Path.{◌≡◌, refl, ap, sym, ◌∙◌}
use mathlib.Core.Bool.{Bool, true, false, ◌&&◌, beq}
use mathlib.Core.Logic.{⊎_elim}
use Prim.Native.Nat.{ℕ, zero, suc, ◌<◌}
use native.Mathlib.Nat.{eq-or-lt_of_le, le_of_suc-le-suc}
use native.Mathlib.Omega.{arith}
use Rattle.base_bits.proofs.Cases.{and_left, and_right}

-- a test that holds at each number below n
abbrev pub all_below : (ℕ → Bool) → ℕ → Bool
all_below f zero = true
all_below f (suc n) = f n && all_below f n

pub below : (f : ℕ → Bool) (n : ℕ) → all_below f n ≡ true → (a : ℕ) → a < n → f a ≡ true
below f zero t a h = absurd (omega arith)
below f (suc n) t a h =
    ⊎_elim
    (λ (e : a ≡ n). ap f e ∙ and_left (f n) (all_below f n) t)
    (λ (l : a < n). below f n (and_right (f n) (all_below f n) t) a l)
    (eq-or-lt_of_le (le_of_suc-le-suc h))

same : (x y : Bool) → beq x y ≡ true → x ≡ y
same true true h = refl
same true false h = sym h
same false true h = h
same false false h = refl

-- two tests that agree at each number below n
pub agree_below : (f g : ℕ → Bool) (n : ℕ) → all_below (λ (k : ℕ). beq (f k) (g k)) n ≡ true → (a : ℕ) → a < n → f a ≡ g a
agree_below f g n t a h = same (f a) (g a) (below (λ (k : ℕ). beq (f k) (g k)) n t a h)
