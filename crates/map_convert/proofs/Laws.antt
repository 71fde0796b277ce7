-- Laws of the converter: how many bytes it makes, and what number 0 says of its map.
use mathlib.Core.Path.{◌≡◌, refl, ap, sym, ◌∙◌, subst}
use mathlib.Core.Bool.{Bool, true, false, cond, ◌||◌, true≢false}
use mathlib.Core.List.{List, [], ◌∷◌}
use Prim.Native.Nat.{ℕ, ◌+◌, ◌*◌, ◌/◌, ◌%◌, ◌≤◌}
use native.Mathlib.Omega.{arith}
use lib.ListN.{length, take, drop, length-append, length-drop}
use lib.Dec.{eqb, leb}
use borrow.Author.Tests.{eqb-true, leb-true, eq-eqb}
use Rattle.base_bits.specs.Tests.{unless}
use Rattle.base_bits.specs.Buffer.{Put}
use Rattle.base_bits.proofs.Cases.{yes, no, each}
use Rattle.base_bits.proofs.Putting.{put_filled}
use Rattle.base_numbers.specs.declared.Refusal.{Refusal}
use Rattle.base_numbers.specs.Numbers.{refusal_number}
use Rattle.base_numbers.proofs.Numbers.{not_done}
use Rattle.base_chip.specs.declared.Chip.TheVariants.{Newer}
use Rattle.map_format.specs.Format.{version_of, count_of, flags_of, entry_size, head_size_in, head_of}
use Rattle.map_test.specs.MapTest.{map_number}
use Rattle.map_test.proofs.Laws.{good_form}
use Rattle.map_convert.specs.Convert.{length_in, head_bytes, converted_to, convert_number, converting, convert_of}

pub length_head : (version n : ℕ) → length (head_bytes version n) ≡ head_size_in version
unfolding head_bytes
length_head version n =
    let l = length_in version n in
    go (eqb version 2) (l / 256) (l % 256) version (n / 256) (n % 256)
  where
    go : (b : Bool) (v w x y z : ℕ) → length (v ∷ w ∷ x ∷ y ∷ z ∷ cond b (0 ∷ []) []) ≡ cond b 6 5
    go true v w x y z = refl
    go false v w x y z = refl

-- a good map is converted to its entries behind a head of the wished version
pub length_converted : (version : ℕ) (m : List ℕ) → map_number Newer m ≡ 0 → length (converted_to version m) ≡ head_size_in version + entry_size * count_of m
unfolding converted_to head_of
length_converted version m good =
    each (λ (l : List ℕ). length l ≡ head_size_in version + entry_size * count_of m) (eqb (version_of m) version)
    (λ t. good_form Newer m good ∙ ap (λ (v : ℕ). head_size_in v + entry_size * count_of m) (eqb-true (version_of m) version t))
    (λ t. omega (
      arith,
      length-append (head_bytes version (count_of m)) (drop (head_of m) m),
      length_head version (count_of m),
      length-drop
          (head_of m) m,
      good_form Newer m good,
    ))

-- what number 0 says: the map is good, what goes back has no flag, and the buffer has room
pub record ConvertTests (version : ℕ) (m : List ℕ) (room : ℕ) : Type 0 where
  pub good : map_number Newer m ≡ 0
  pub unflagged : (eqb version 2 || eqb (flags_of m) 0) ≡ true
  pub enough : length (converted_to version m) ≤ room

pub convert_tests : (version : ℕ) (m : List ℕ) (room : ℕ) → convert_number version m room ≡ 0 → ConvertTests version m room
unfolding convert_number
convert_tests version m room z =
    let t = passed (map_number Newer m) (eqb (map_number Newer m) 0) (eqb version 2 || eqb (flags_of m) 0) (leb (length (converted_to version m)) room) refl z in
    record {
      good = t.0;
      unflagged = t.1.0;
      enough = leb-true (length (converted_to version m)) room t.1.1;
    }
  where
    passed : (k : ℕ) (a b c : Bool) → a ≡ eqb k 0 → unless a k (unless b 13 (unless c 11 0)) ≡ 0 → (k ≡ 0) × ((b ≡ true) × (c ≡ true))
    passed k true true true e z = (eqb-true k 0 (sym e), (refl, refl))
    passed k true true false e z = absurd (omega arith)
    passed k true false c e z = absurd (omega arith)
    passed k false b c e z = absurd (subst (λ (x : ℕ). eqb x 0 ≡ false → ⊥) (sym z) (λ f. true≢false f) (sym e))

-- the head is the first bytes of one with a flag byte
pub head_taken :
    (version n : ℕ)
    → take (head_size_in version) (length_in version n / 256 ∷ length_in version n % 256 ∷ version ∷ n / 256 ∷ n % 256 ∷ 0 ∷ []) ≡ head_bytes version n
unfolding head_bytes
head_taken version n =
    let l = length_in version n in
    go (eqb version 2) (l / 256) (l % 256) version (n / 256) (n % 256)
  where
    go : (b : Bool) (v w x y z : ℕ) → take (cond b 6 5) (v ∷ w ∷ x ∷ y ∷ z ∷ 0 ∷ []) ≡ v ∷ w ∷ x ∷ y ∷ z ∷ cond b (0 ∷ []) []
    go true v w x y z = refl
    go false v w x y z = refl

-- what a call leaves: the whole map at the start of the buffer, or the buffer as it was
module _ (version : ℕ) (m old : List ℕ) where
  pub done :
      (n : ℕ) (new : List ℕ) → convert_number version m (length old) ≡ 0 → Put old 0 (converted_to version m) n new
      → converting 0 n new ≡ convert_of version m old
  unfolding convert_of
  done n new number p =
      let count : n ≡ length (converted_to version m) = omega (arith, p.next_place) in
      let buffer = put_filled (convert_tests version m _ number).enough p in
      yes _ (eq-eqb _ _ number) (cc)

  pub refused : (e : Refusal) → refusal_number e ≡ convert_number version m (length old) → converting (refusal_number e) 0 old ≡ convert_of version m old
  unfolding convert_of
  refused e h = rw (← h) (no _ (not_done e) refl)
