-- Laws of mending: what number 0 says of the map and the list, and what a call leaves.
use mathlib.Core.Path.{◌≡◌, refl}
use mathlib.Core.Bool.{Bool, true, false}
use mathlib.Core.List.{List}
use Prim.Native.Nat.{ℕ, ◌≤◌}
use native.Mathlib.Omega.{arith}
use lib.ListN.{length}
use lib.Dec.{leb}
use borrow.Author.Tests.{eq-eqb, leb-true}
use Rattle.base_bits.specs.Tests.{every, unless}
use Rattle.base_bits.proofs.Cases.{yes, no}
use Rattle.base_bits.proofs.Putting.{put_filled}
use Rattle.base_numbers.specs.declared.Refusal.{Refusal}
use Rattle.base_numbers.specs.Numbers.{refusal_number}
use Rattle.base_numbers.proofs.Numbers.{not_done}
use Rattle.map_test.specs.MapTest.{form_tests, Formed, product_good}
use Rattle.map_test.proofs.Laws.{formed}
use Rattle.map_mend.specs.Mend.{altered_of, mend_number, MendedEntries, mending, mend_of}

-- what number 0 says: the form is right, the product number is one, and the list fits
pub record MendTests (m : List ℕ) (room : ℕ) : Type 0 where
  pub form : every (form_tests m) ≡ true
  pub product : product_good m ≡ true
  pub fits : length (altered_of m) ≤ room

pub mend_tests : (m : List ℕ) (room : ℕ) → mend_number m room ≡ 0 → MendTests m room
unfolding mend_number
mend_tests m room z =
    let t = passed (every (form_tests m)) (product_good m) (leb (length (altered_of m)) room) z in
    record { form = t.0; product = t.1.0; fits = leb-true (length (altered_of m)) room t.1.1 }
  where
    passed : (a b c : Bool) → unless a 2 (unless b 18 (unless c 6 0)) ≡ 0 → (a ≡ true) × ((b ≡ true) × (c ≡ true))
    passed true true true z = (refl, (refl, refl))
    passed true true false z = absurd (omega arith)
    passed true false c z = absurd (omega arith)
    passed false b c z = absurd (omega arith)

pub is_formed : (m : List ℕ) (room : ℕ) → mend_number m room ≡ 0 → Formed m
is_formed m room z = formed m (mend_tests m room z).form

-- what a call leaves: the mended map and its list, or both as they were
module _ (m old : List ℕ) where
  pub done :
      (n : ℕ) (m' new : List ℕ) → mend_number m (length old) ≡ 0 → MendedEntries m old n m' new
      → mending 0 n m' new ≡ mend_of m old
  unfolding mend_of
  done n m' new number p =
      let count : n ≡ length (altered_of m) = omega (arith, p.listed.next_place) in
      let list = put_filled (mend_tests m _ number).fits p.listed in
      yes _ (eq-eqb _ _ number) (cc p.map_after)

  pub refused : (e : Refusal) → refusal_number e ≡ mend_number m (length old) → mending (refusal_number e) 0 m old ≡ mend_of m old
  unfolding mend_of
  refused e h = rw (← h) (no _ (not_done e) refl)
