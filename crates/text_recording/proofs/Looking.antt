-- Looking at samples: what is seen with one more, and how many are good.
use mathlib.Core.Path.{◌≡◌, refl}
use mathlib.Core.Bool.{true, false, ◌||◌}
use mathlib.Core.List.{List, [], ◌∷◌}
use Prim.Native.Nat.{ℕ, suc, ◌+◌, ◌<◌, ◌≤◌}
use native.Mathlib.Numerals.{add-one}
use native.Mathlib.Omega.{arith}
use lib.ListN.{length, get_or, drop, drop_of_length-le}
use lib.Seq.{drop-cons}
use lib.Dec.{leb}
use Rattle.std.specs.List.{position_or_len}
use Rattle.std.specs.Prelude.{nat_lt, cond, not, position, unwrap_or}
use Rattle.std.proofs.lemmas.List.Sums.{prefix_len-le-length}
use Rattle.std.proofs.lemmas.List.Recursion.{is_position_or_len}
use Rattle.std.proofs.lemmas.Bool.Decides.{nat_tests}
use Rattle.base_bits.proofs.Cases.{each}
use Rattle.text_recording.specs.declared.glance.Seen.{Seen}
use Rattle.text_recording.specs.Glance.{seen, falls_at, rises_at, seen_of, good_before}

-- nothing is looked for after a clock edge with the select low
pub rose_stays : (s : Seen) (xs : List ℕ) → s.rose ≡ true → seen_of s xs ≡ s
unfolding seen_of
rose_stays s [] h = refl
rose_stays s (x ∷ xs) h = rw h

-- one more sample, where there has been none yet
pub look_more : (s : Seen) (xs : List ℕ) (i : ℕ) → i < length xs → s.rose ≡ false
    → seen_of (seen (get_or xs i 0) (s.fell || falls_at s.last (get_or xs i 0)) (rises_at s.last (get_or xs i 0))) (drop (i + 1) xs)
    ≡ seen_of s (drop i xs)
unfolding seen_of
look_more s xs i h unrisen = rw (add-one, drop-cons xs i 0 h, unrisen)

-- there is no more
pub look_all : (s : Seen) (xs : List ℕ) (i : ℕ) → length xs ≤ i → s ≡ seen_of s (drop i xs)
unfolding seen_of
look_all s xs i h = rw (drop_of_length-le xs h)

-- as many are good as come before the first that is bad
good_more : (x : ℕ) (xs : List ℕ) → good_before (x ∷ xs) ≡ cond (nat_lt 15 x) 0 (1 + good_before xs)
unfolding good_before
good_more x xs = grind (arith, nat_tests)

first_good : (xs : List ℕ) → good_before xs ≡ position_or_len (λ (x : ℕ). nat_lt 15 x) xs
unfolding good_before
first_good = is_position_or_len good_before (λ (x : ℕ). nat_lt 15 x) refl good_more

pub before_bad : (xs : List ℕ) → unwrap_or (position (λ (x : ℕ). nat_lt 15 x) xs) (length xs) ≡ good_before xs
before_bad xs = grind (arith, nat_tests, first_good xs, prefix_len-le-length (λ (x : ℕ). not (nat_lt 15 x)) xs)

-- no more samples are good than there are
good_before_most : (xs : List ℕ) → good_before xs ≤ length xs
unfolding good_before
good_before_most [] = omega arith
good_before_most (x ∷ xs) =
    each (λ (n : ℕ). n ≤ suc (length xs)) (leb x 15) (λ t. omega (arith, good_before_most xs)) (λ t. omega arith)

pub good_within : {n : ℕ} (xs : List ℕ) → n ≡ good_before xs → n ≤ length xs
good_within xs e = omega (arith, good_before_most xs)
