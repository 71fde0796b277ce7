-- Samples of two bytes, by their place.
use mathlib.Core.Path.{◌≡◌, refl, sym, ap, ap₂, ◌∙◌}
use mathlib.Core.Bool.{true, not, ◌&&◌}
use mathlib.Core.List.{List, [], ◌∷◌}
use Prim.Native.Nat.{ℕ, zero, suc, ◌+◌, ◌-◌, ◌*◌, ◌/◌, ◌^◌, ◌<◌, ◌≤◌}
use native.Mathlib.Omega.{arith}
use borrow.Author.Tests.{leb-true}
use lib.Dec.{leb}
use lib.ListN.{length, get_or}
use Rattle.base_bits.specs.Bits.{bit_at}
use Rattle.base_bits.proofs.Cases.{and_left, and_right}
use Rattle.several_chips.specs.Samples.{Sample, samples_in, sample_good, all_good}
use Rattle.several_chips.specs.Promises.{sample_at}

pub sample_count : (bytes : List ℕ) → length (samples_in bytes) ≡ length bytes / 2
unfolding samples_in
sample_count [] = refl
sample_count (x ∷ []) = refl
sample_count (x ∷ y ∷ more) = ap suc (sample_count more) ∙ (let h : suc (length more / 2) ≡ suc (suc (length more)) / 2 = omega arith in h)

pub sample_here : (bytes : List ℕ) (j : ℕ) (d : Sample) → 2 * j + 1 < length bytes → get_or (samples_in bytes) j d ≡ sample_at bytes j
unfolding samples_in
sample_here [] j d h = absurd (omega arith)
sample_here (x ∷ []) j d h = absurd (omega arith)
sample_here (x ∷ y ∷ more) zero d h = refl
sample_here (x ∷ y ∷ more) (suc j) d h =
    let e : 2 * suc j ≡ suc (suc (2 * j)) = omega arith in
    let f : 2 * suc j + 1 ≡ suc (suc (2 * j + 1)) = omega arith in
    sample_here more j d (omega arith) ∙ ap₂ (λ (a b : ℕ). record { selects = get_or (x ∷ y ∷ more) a 0; lines = get_or (x ∷ y ∷ more) b 0 }) (sym e) (sym f)

pub good_at : (chips : ℕ) (xs : List Sample) (j : ℕ) (d : Sample) → all_good chips xs ≡ true → j < length xs → (get_or xs j d).lines ≤ 15
unfolding all_good
good_at chips [] j d e h = absurd (omega arith)
good_at chips (x ∷ xs) zero d e h =
    let lines =
    and_right (leb (2 ^ 8 - 2 ^ chips) x.selects) (leb x.lines 15 && not (bit_at x.lines 0)) (and_left (sample_good chips x) (all_good chips xs) e) in
    leb-true _ _ (and_left (leb x.lines 15) (not (bit_at x.lines 0)) lines)
good_at chips (x ∷ xs) (suc j) d e h = good_at chips xs j d (and_right (sample_good chips x) (all_good chips xs) e) (omega arith)
