-- Samples of two bytes, as they are cut off the bytes that are left.
use mathlib.Core.Path.{◌≡◌, refl, sym, ◌∙◌}
use mathlib.Core.Bool.{Bool, true, false, ◌&&◌, and_assoc, and-true}
use mathlib.Core.List.{List, [], ◌∷◌, ◌++◌}
use Prim.Native.Nat.{ℕ, ◌*◌, ◌%◌, ◌<◌, ◌≤◌}
use native.Mathlib.Omega.{arith}
use borrow.Author.Tests.{leb-true}
use lib.Dec.{eqb, leb}
use lib.ListN.{length, get_or}
use Rattle.base_bits.proofs.Cases.{and_left, and_right}
use Rattle.several_chips.specs.Samples.{Sample, sample, samples_in, sample_good, all_good}
use Rattle.several_chips.specs.Numbers.{several_samples_good}

-- the sample that two bytes are
abbrev pub sample_of : List ℕ → Sample
sample_of two = sample (get_or two 0 0) (get_or two 1 0)

-- one sample more
pub cut_off : (two more : List ℕ) → length two ≡ 2 → samples_in (two ++ more) ≡ sample_of two ∷ samples_in more
unfolding samples_in
cut_off [] more e = absurd (omega arith)
cut_off (x ∷ []) more e = absurd (omega arith)
cut_off (x ∷ y ∷ []) more e = refl
cut_off (x ∷ y ∷ z ∷ two) more e = absurd (omega arith)

pub none_left : (left : List ℕ) → length left < 2 → samples_in left ≡ []
unfolding samples_in
none_left [] h = refl
none_left (x ∷ []) h = refl
none_left (x ∷ y ∷ left) h = absurd (omega arith)

-- a test of each sample
module _ (chips : ℕ) (left : List ℕ) {whole : Bool} (good : Bool) (inv : (good && all_good chips (samples_in left)) ≡ whole) where
  pub good_more : (two more : List ℕ) → left ≡ two ++ more → length two ≡ 2 → (here : Bool) → here ≡ sample_good chips (sample_of two)
      → ((good && here) && all_good chips (samples_in more)) ≡ whole
  unfolding all_good
  good_more two more cut even here e =
      and_assoc good here (all_good chips (samples_in more)) ∙ (rw (cut, cut_off two more even, ← e) at inv)

  pub samples_passed : length left < 2 → good ≡ whole
  unfolding all_good
  samples_passed h = sym (and-true good) ∙ (rw (none_left left h) at inv)

-- the number of bytes before the samples
module _ (chips : ℕ) (bytes : List ℕ) where
  abbrev sized : Bool
  sized = eqb (length bytes % 2) 0 && leb (length bytes) (2 * 65536)

  pub right_size : sized ≡ true → all_good chips (samples_in bytes) ≡ several_samples_good chips bytes
  right_size e = rw (and_left (eqb (length bytes % 2) 0) _ e, and_right (eqb (length bytes % 2) 0) _ e)

  pub wrong_size : sized ≡ false → false ≡ several_samples_good chips bytes
  wrong_size e = rw (← and_assoc (eqb (length bytes % 2) 0) (leb (length bytes) (2 * 65536)) (all_good chips (samples_in bytes)), e)

  pub good_bytes : several_samples_good chips bytes ≡ true → (length bytes ≤ 131072) × (all_good chips (samples_in bytes) ≡ true)
  good_bytes e =
      let rest = and_right (eqb (length bytes % 2) 0) _ e in
      (leb-true (length bytes) 131072 (and_left (leb (length bytes) 131072) _ rest), and_right (leb (length bytes) 131072) _ rest)
