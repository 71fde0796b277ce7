-- The number of a list, test by test.
use mathlib.Core.Path.{◌≡◌, refl, ap, sym, ◌∙◌}
use mathlib.Core.Bool.{Bool, true, false, cond, false≢true}
use mathlib.Core.List.{List, ◌∷◌}
use Prim.Native.Nat.{ℕ, suc, ◌≤◌, ◌<◌}
use native.Mathlib.Omega.{arith}
use native.Mathlib.Nat.{suc-ne-zero}
use lib.ListN.{length}
use lib.Dec.{eqb, leb}
use borrow.Author.Tests.{leb-true, le-leb, lt-leb, ne_eqb, eqb-true}
use Rattle.base_bits.specs.Tests.{unless}
use Rattle.base_bits.proofs.Cases.{no}
use Rattle.base_numbers.specs.Numbers.{refusal_number}
use Rattle.base_numbers.specs.declared.Refusal.{Refusal}
use Rattle.base_numbers.proofs.Numbers.{some_number}
use Rattle.base_chip.specs.declared.Chip.TheVariants.{Newer}
use Rattle.send_order.specs.Order.{Order}
use Rattle.send_order.specs.Samples.{all_samples}
use Rattle.send_setup.specs.Form.{list_good}
use Rattle.send_setup.specs.Look.{LookAfter}
use Rattle.send_setup.specs.Calls.{most_orders, most_samples, orders_of, own_number, first_bad, room_number, setup_number}

-- the first of two numbers that is not 0
pub no_first : (x y : ℕ) → cond (eqb x 0) y x ≡ 0 → (x ≡ 0) × (y ≡ 0)
no_first x y h = go (eqb x 0) refl h
  where
    go : (b : Bool) → eqb x 0 ≡ b → cond b y x ≡ 0 → (x ≡ 0) × (y ≡ 0)
    go true e h = (eqb-true x 0 e, h)
    go false e h = absurd (false≢true (sym e ∙ ap (λ (k : ℕ). eqb k 0) h))

-- of orders none of which is bad
pub none_bad : (o : Order) (os : List Order) → first_bad (o ∷ os) ≡ 0 → (own_number o ≡ 0) × (first_bad os ≡ 0)
unfolding first_bad
none_bad o os h = no_first (own_number o) (first_bad os) h

-- the first of some orders decides, or those after it
pub first_bad_lem : (o : Order) (os : List Order) → (own_number o ≡ 0 → ⊥) → own_number o ≡ first_bad (o ∷ os)
unfolding first_bad
first_bad_lem o os z = no _ (ne_eqb _ _ z) refl

pub first_good : (o : Order) (os : List Order) → own_number o ≡ 0 → first_bad (o ∷ os) ≡ first_bad os
unfolding first_bad
first_good o os z = rw z

pub held : (test : Bool) (n next : ℕ) → unless test (suc n) next ≡ 0 → (test ≡ true) × (next ≡ 0)
held true n next h = (refl, h)
held false n next h = absurd (suc-ne-zero n h)

-- the number of a refusal is not 0
pub refused_some : (e : Refusal) → refusal_number e ≡ 0 → ⊥
refused_some e z = omega (arith, some_number e, z)

-- the number of a list, by what a look over it has found
module _ (settings : ℕ) (l : List ℕ) (room number total : ℕ) (f : LookAfter settings l number total) where
  pub number_first : (number ≡ 0 → ⊥) → number ≡ setup_number settings l room
  unfolding setup_number
  number_first z = go (list_good most_orders l) f.first
    where
      go : (b : Bool) → number ≡ unless b 14 (first_bad (orders_of settings l))
          → number
          ≡ unless b 14
          (cond (eqb (first_bad (orders_of settings l)) 0) (room_number (length (all_samples Newer (orders_of settings l))) room) (first_bad (orders_of settings l)))
      go true e = no _ (ne_eqb _ _ (λ q. z (e ∙ q))) e
      go false e = e

  module _ (z : number ≡ 0) where
    by_total : room_number total room ≡ setup_number settings l room
    unfolding setup_number
    by_total =
        let h = held (list_good most_orders l) 13 _ (sym f.first ∙ z) in
        rw (h.0, h.1, f.all z)

    pub number_15 : most_samples < total → 15 ≡ setup_number settings l room
    number_15 h = rw (lt-leb total most_samples h) at by_total

    pub number_11 : total ≤ most_samples → room < total → 11 ≡ setup_number settings l room
    number_11 h r = rw (le-leb total most_samples h, lt-leb total room r) at by_total

    pub number_0 : total ≤ most_samples → total ≤ room → 0 ≡ setup_number settings l room
    number_0 h r = rw (le-leb total most_samples h, le-leb total room r) at by_total

-- What a number of 0 tells of a list.
pub record Passed (settings : ℕ) (l : List ℕ) (room : ℕ) : Type 0 where
  pub good : list_good most_orders l ≡ true
  pub fine : first_bad (orders_of settings l) ≡ 0
  pub few : length (all_samples Newer (orders_of settings l)) ≤ most_samples
  pub enough : length (all_samples Newer (orders_of settings l)) ≤ room

pub passed : (settings : ℕ) (l : List ℕ) (room : ℕ) → setup_number settings l room ≡ 0 → Passed settings l room
unfolding setup_number
passed settings l room h =
    let total = length (all_samples Newer (orders_of settings l)) in
    let a = held (list_good most_orders l) 13 _ h in
    let b = no_first (first_bad (orders_of settings l)) _ a.1 in
    let c = held (leb total most_samples) 14 _ b.1 in
    let d = held (leb total room) 10 _ c.1 in
    record { good = a.0; fine = b.0; few = leb-true total most_samples c.0; enough = leb-true total room d.0 }
