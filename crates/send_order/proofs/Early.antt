-- Looking for 0x0000 and 0x0001 along a run, address by address.
use mathlib.Core.Path.{◌≡◌, refl, sym, ◌∙◌}
use mathlib.Core.Bool.{Bool, true, false, ◌||◌}
use mathlib.Core.List.{List, [], ◌∷◌}
use Prim.Native.Nat.{ℕ, zero, suc, ◌+◌, ◌-◌, ◌<◌, ◌≤◌}
use native.Mathlib.Omega.{arith}
use native.Mathlib.Numerals.{add-one}
use lib.ListN.{length, drop}
use lib.Seq.{drop-cons}
use lib.Dec.{eqb}
use Rattle.base_chip.specs.Registers.{configuration_a, configuration_b}
use Rattle.bus_settings.specs.Settings.{next_address}
use Rattle.send_order.specs.Order.{run_from}
use Rattle.send_order.specs.Number.{configures_early}
use Rattle.bus_settings.proofs.Laws.{next_lt}

-- whether the addresses from i on configure early: by the address of byte i where it is not the last, and those after it
early_next : (up : Bool) (a : ℕ) (vs : List ℕ) (i : ℕ) → i + 1 < length vs
    → configures_early (run_from up a (drop i vs))
    ≡ (eqb a configuration_a || eqb a configuration_b || configures_early (run_from up (next_address up a) (drop (i + 1) vs)))
unfolding configures_early run_from
early_next up a vs i h =
    let h0 : i < length vs = omega arith in
    let h1 : suc i < length vs = omega arith in
    rw (add-one i, drop-cons vs i 0 h0, drop-cons vs (suc i) 0 h1)

-- the last byte does not configure early
early_last : (up : Bool) (a : ℕ) (vs : List ℕ) (i : ℕ) → length vs ≤ i + 1 → configures_early (run_from up a (drop i vs)) ≡ false
unfolding configures_early run_from
early_last up a [] zero h = refl
early_last up a [] (suc i) h = refl
early_last up a (v ∷ []) zero h = refl
early_last up a (v ∷ w ∷ vs) zero h = absurd (omega arith)
early_last up a (v ∷ vs) (suc i) h = early_last up a vs i (omega arith)

-- The addresses of the bytes before number n are neither 0x0000 nor 0x0001, counted from 1: so it is for the rest to say.
pub record Looking (up : Bool) (start : ℕ) (vs : List ℕ) (a n : ℕ) : Type 0 where
  pub some : 1 ≤ n
  pub near : a < 0x8000
  pub rest : configures_early (run_from up a (drop (n - 1) vs)) ≡ configures_early (run_from up start vs)

module _ {up : Bool} {start : ℕ} {vs : List ℕ} {a n : ℕ} (k : Looking up start vs a n) where
  pub found : n < length vs → (eqb a configuration_a || eqb a configuration_b) ≡ true → true ≡ configures_early (run_from up start vs)
  found h t = sym (early_next up a vs (n - 1) (omega (arith, k.some)) ∙ rw t) ∙ k.rest

  pub passed : n < length vs → (eqb a configuration_a || eqb a configuration_b) ≡ false → Looking up start vs (next_address up a) (n + 1)
  passed h t =
      let place : n + 1 - 1 ≡ n - 1 + 1 = omega (arith, k.some) in
      record { some = omega arith; near = next_lt up a; rest = rw place (sym (early_next up a vs (n - 1) (omega (arith, k.some)) ∙ rw t) ∙ k.rest) }

  pub missed : length vs ≤ n → false ≡ configures_early (run_from up start vs)
  missed h = sym (early_last up a vs (n - 1) (omega arith)) ∙ k.rest
