-- The addresses of a run on an older chip: its ends tell whether all of them are 0 to the top, and then no step of it wraps.
use mathlib.Core.Path.{◌≡◌, sym, ◌∙◌}
use mathlib.Core.Bool.{Bool, true, false, cond}
use mathlib.Core.List.{List, [], ◌∷◌}
use Prim.Native.Nat.{ℕ, zero, suc, ◌+◌, ◌-◌, ◌%◌, ◌<◌, ◌≤◌}
use native.Mathlib.Omega.{arith}
use lib.Dec.{eqb, leb, leb-suc-suc}
use lib.ListN.{length}
use borrow.Author.Tests.{le-leb, lt-leb, leb-true, ne_eqb}
use Rattle.base_bits.proofs.Cases.{and_left, and_right}
use Rattle.bus_settings.specs.Settings.{next_address}
use Rattle.send_order.specs.Order.{run_from}
use Rattle.send_order.specs.Number.{up_to}

module _ (top : ℕ) (low : top < 0x7FFF) where
  -- going up, with so many addresses left to the top
  going_up : (a left : ℕ) (vs : List ℕ) → a + left ≡ top + 1 → up_to top (run_from true a vs) ≡ leb (length vs) left
  unfolding up_to run_from
  going_up a left [] h = sym (le-leb 0 left (omega arith))
  going_up a zero (v ∷ vs) h = rw (lt-leb a top (omega arith)) (sym (lt-leb (suc (length vs)) 0 (omega arith)))
  going_up a (suc left) (v ∷ vs) h =
      let next : (a + 1) % 0x8000 ≡ a + 1 = omega arith in
      rw (le-leb a top (omega arith), next) (going_up (a + 1) left vs (omega arith) ∙ sym (leb-suc-suc (length vs) left))

  -- going down
  going_down : (a : ℕ) (vs : List ℕ) → a ≤ top → up_to top (run_from false a vs) ≡ leb (length vs) (a + 1)
  unfolding up_to run_from
  going_down a [] h = sym (le-leb 0 (a + 1) (omega arith))
  going_down zero (v ∷ []) h = rw (le-leb 0 top h)
  going_down zero (v ∷ w ∷ ws) h = rw (le-leb 0 top h, lt-leb 0x7FFF top low) (sym (lt-leb (suc (suc (length ws))) 1 (omega arith)))
  going_down (suc a) (v ∷ vs) h =
      let next : (suc a + 0x7FFF) % 0x8000 ≡ a = omega arith in
      let one_more : suc a + 1 ≡ suc (a + 1) = omega arith in
      rw (le-leb (suc a) top h, next, one_more) (going_down a vs (omega arith) ∙ sym (leb-suc-suc (length vs) (a + 1)))

  -- a start above the top
  pub starts_above : (up : Bool) (a : ℕ) (vs : List ℕ) → 1 ≤ length vs → top < a → false ≡ up_to top (run_from up a vs)
  unfolding up_to run_from
  starts_above up a [] some h = absurd (omega arith)
  starts_above up a (v ∷ vs) some h = rw (lt-leb a top h)

  pub stays_up : (a : ℕ) (vs : List ℕ) → a ≤ top → leb (length vs) (top - a + 1) ≡ up_to top (run_from true a vs)
  stays_up a vs h = sym (going_up a (top - a + 1) vs (omega arith))

  pub stays_down : (a : ℕ) (vs : List ℕ) → a ≤ top → leb (length vs) (a + 1) ≡ up_to top (run_from false a vs)
  stays_down a vs h = sym (going_down a vs h)

-- A byte of such a run and the next one: the run is not at its end, so that its next address is one up or down, and stays too.
pub record Onward (top : ℕ) (up : Bool) (a : ℕ) (vs : List ℕ) : Type 0 where
  pub here : a ≤ top
  pub not_at_end : eqb a (cond up top 0) ≡ false
  pub onward : up_to top (run_from up (next_address up a) vs) ≡ true

pub stays_on : (top : ℕ) (up : Bool) (a v w : ℕ) (ws : List ℕ) → top < 0x7FFF → up_to top (run_from up a (v ∷ w ∷ ws)) ≡ true → Onward top up a (w ∷ ws)
unfolding up_to run_from
stays_on top up a v w ws low h =
    let here : a ≤ top = leb-true a top (and_left (leb a top) _ h) in
    let later : up_to top (run_from up (next_address up a) (w ∷ ws)) ≡ true = and_right (leb a top) _ h in
    let next : next_address up a ≤ top = leb-true (next_address up a) top (and_left (leb (next_address up a) top) _ later) in
    record { here = here; not_at_end = no_end up next; onward = later }
  where
    no_end : (up : Bool) → next_address up a ≤ top → eqb a (cond up top 0) ≡ false
    no_end true n = ne_eqb a top (λ (e : a ≡ top). omega arith)
    no_end false n = ne_eqb a 0 (λ (e : a ≡ 0). omega arith)

-- the first address of a run that stays
pub starts_within : (top : ℕ) (up : Bool) (a : ℕ) (vs : List ℕ) → 1 ≤ length vs → up_to top (run_from up a vs) ≡ true → a ≤ top
unfolding up_to run_from
starts_within top up a [] some h = absurd (omega arith)
starts_within top up a (v ∷ vs) some h = leb-true a top (and_left (leb a top) _ h)
