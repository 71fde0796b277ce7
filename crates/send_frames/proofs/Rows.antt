-- Neighbours found from the front: they are the first stretch, and a walk along them ends where it does.
use mathlib.Core.Path.{◌≡◌, refl, ap, sym}
use mathlib.Core.Bool.{Bool, true, false, cond}
use mathlib.Core.List.{List, [], ◌∷◌}
use Prim.Native.Nat.{ℕ, suc, ◌+◌, ◌≤◌, ◌<◌}
use native.Mathlib.Omega.{arith}
use native.Mathlib.Numerals.{add-one}
use lib.ListN.{length, get_or, take, drop, drop_of_length-le}
use lib.Seq.{drop-cons}
use lib.Dec.{eqb}
use borrow.Author.Tests.{eq-eqb, ne_eqb}
use Rattle.base_bits.proofs.Cases.{each}
use Rattle.send_frames.specs.Frames.{Stretch, stretch, wanted_of, joined_to, stretches_of}
use Rattle.send_frames.specs.Rows.{neighbours}

pub few_neighbours : (a : ℕ) (rest : List ℕ) → neighbours a rest ≤ length rest
unfolding neighbours
few_neighbours a [] = omega arith
few_neighbours a (b ∷ rest) = each (λ (n : ℕ). n ≤ suc (length rest)) (eqb (a + 1) b) (λ t. omega (arith, few_neighbours b rest)) (λ t. omega arith)

pub first_stretch :
    (a v : ℕ) (rest vs : List ℕ) → length rest ≡ length vs
    → stretches_of (wanted_of (a ∷ rest) (v ∷ vs))
    ≡ stretch a (v ∷ take (neighbours a rest) vs) ∷ stretches_of (wanted_of (drop (neighbours a rest) rest) (drop (neighbours a rest) vs))
unfolding stretches_of wanted_of joined_to neighbours
first_stretch a v [] [] h = refl
first_stretch a v [] (w ∷ vs) h = absurd (omega arith)
first_stretch a v (b ∷ rest) [] h = absurd (omega arith)
first_stretch a v (b ∷ rest) (w ∷ vs) h =
    let others = first_stretch b w rest vs (omega arith) in
    rw others (go (eqb (a + 1) b) (omega arith) (sym others))
  where
    k : ℕ
    k = neighbours b rest

    more : List Stretch
    more = stretches_of (wanted_of (drop k rest) (drop k vs))

    go : (t : Bool) → 1 + k ≡ suc k → stretch b (w ∷ take k vs) ∷ more ≡ stretches_of (wanted_of (b ∷ rest) (w ∷ vs))
        → cond t (stretch a (v ∷ w ∷ take k vs) ∷ more) (stretch a (v ∷ []) ∷ stretch b (w ∷ take k vs) ∷ more)
        ≡ stretch a (v ∷ take (cond t (1 + k) 0) (w ∷ vs)) ∷ stretches_of (wanted_of (drop (cond t (1 + k) 0) (b ∷ rest)) (drop (cond t (1 + k) 0) (w ∷ vs)))
    go true e same = rw e
    go false e same = ap (λ (l : List Stretch). stretch a (v ∷ []) ∷ l) same

-- In a walk along the neighbours from a place on: those that are passed, with those after the last of them, are all.
pub record Row (l : List ℕ) (from last end : ℕ) : Type 0 where
  pub within : end ≤ length l
  pub row : end + neighbours last (drop end l) ≡ from + 1 + neighbours (get_or l from 0) (drop (from + 1) l)

module _ {l : List ℕ} {from last end : ℕ} (r : Row l from last end) where
  pub row_on : end < length l → get_or l end 0 ≡ last + 1 → Row l from (get_or l end 0) (end + 1)
  unfolding neighbours
  row_on h e =
      let one : neighbours last (drop end l) ≡ 1 + neighbours (get_or l end 0) (drop (end + 1) l) =
      rw (drop-cons l end 0 h, eq-eqb (last + 1) (get_or l end 0) (sym e), add-one end) in
      record { within = omega arith; row = omega (arith, r.row) }

  pub row_ends : end < length l → (get_or l end 0 ≡ last + 1 → ⊥) → end ≡ from + 1 + neighbours (get_or l from 0) (drop (from + 1) l)
  unfolding neighbours
  row_ends h gap =
      let none : neighbours last (drop end l) ≡ 0 = rw (drop-cons l end 0 h, ne_eqb (last + 1) (get_or l end 0) (λ e. gap (sym e))) in
      omega (arith, r.row)

  pub row_last : length l ≤ end → end ≡ from + 1 + neighbours (get_or l from 0) (drop (from + 1) l)
  unfolding neighbours
  row_last h =
      let none : neighbours last (drop end l) ≡ 0 = rw (drop_of_length-le l {i = end} h) in
      omega (arith, r.row)
