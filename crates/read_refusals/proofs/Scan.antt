-- Looking at samples before any is read: whether each is a sample, and that their records can be counted.
use mathlib.Core.Path.{◌≡◌, refl, ap, sym, ◌∙◌}
use mathlib.Core.Bool.{Bool, true, false, false≢true, ◌&&◌, and_assoc, and-true}
use mathlib.Core.List.{List}
use Prim.Native.Nat.{ℕ, ◌+◌, ◌<◌, ◌≤◌}
use native.Mathlib.Numerals.{add-one}
use native.Mathlib.Omega.{arith}
use lib.Bits.{bit_or, or_lt, or_add_and, and_le_l, and_le_r}
use lib.Dec.{leb}
use lib.ListN.{length, get_or, drop, drop_of_length-le}
use lib.Seq.{drop-cons}
use borrow.Author.Tests.{le-leb, lt-leb, leb-true, leb-false}
use Rattle.base_chip.specs.declared.Chip.{Chip}
use Rattle.bus_session.specs.State.{sound_session}
use Rattle.read_run.specs.Reading.{ReaderState}
use Rattle.read_run.specs.Promises.{RunBefore}
use Rattle.read_refusals.specs.Numbers.{samples_good}

-- two samples have none of bits 4 to 7 together where neither has any
together_good : (a b : ℕ) → leb (bit_or a b) 15 ≡ (leb a 15 && leb b 15)
together_good a b = both (leb a 15) (leb b 15) refl refl where
  both : (p q : Bool) → leb a 15 ≡ p → leb b 15 ≡ q → leb (bit_or a b) 15 ≡ (p && q)
  both true true e f = le-leb (bit_or a b) 15 (omega (arith, or_lt 4 a b (omega (arith, leb-true a 15 e)) (omega (arith, leb-true b 15 f))))
  both true false e f = lt-leb (bit_or a b) 15 (omega (arith, leb-false b 15 f, or_add_and a b, and_le_l a b))
  both false q e f = lt-leb (bit_or a b) 15 (omega (arith, leb-false a 15 e, or_add_and a b, and_le_r a b))

-- the bits that the samples below i have together are good, and with the samples that are left so are all
module _ (xs : List ℕ) (bits i : ℕ) (e : (leb bits 15 && samples_good (drop i xs)) ≡ samples_good xs) where
  pub good_more : i < length xs → (leb (bit_or bits (get_or xs i 0)) 15 && samples_good (drop (i + 1) xs)) ≡ samples_good xs
  unfolding samples_good
  good_more h =
      ap (λ (t : Bool). t && samples_good (drop (i + 1) xs)) (together_good bits (get_or xs i 0))
      ∙ and_assoc (leb bits 15) (leb (get_or xs i 0) 15) (samples_good (drop (i + 1) xs))
      ∙ rw add-one (rw (drop-cons xs i 0) at e)

  pub good_all : length xs ≤ i → leb bits 15 ≡ samples_good xs
  unfolding samples_good
  good_all h = sym (and-true (leb bits 15)) ∙ (rw (drop_of_length-le xs h) at e)

-- a pass that puts no record asks nothing of the map, the banks and the buffer
pub ready_to_count : (c : Chip) (m : List ℕ) (w : ReaderState) (xs old : List ℕ) → sound_session c w.session ≡ true → length xs ≤ 65536
    → RunBefore c false m w xs old
ready_to_count c m w xs old f h = record {
  sound = f;
  few = h;
  mapped = λ p. absurd (false≢true p);
  bits = λ p. absurd (false≢true p);
  room = λ p. absurd (false≢true p);
}
