-- What a place asks of the kind: nothing but "no control" beyond the table, and control at a few places alone.
use mathlib.Core.Path.{◌≡◌, refl, ap, sym, ◌∙◌}
use mathlib.Core.Bool.{Bool, true, false, ◌&&◌, ◌||◌}
use mathlib.Core.List.{List, []}
use Prim.Native.Nat.{ℕ, ◌≤◌, ◌<◌}
use native.Mathlib.Omega.{arith}
use borrow.Author.Tests.{ltb-true, ltb-false, eqb-true, ne_eqb, not-true}
use lib.ListN.{length, get_or, get_or-eq_default}
use lib.Seq.{drop-cons}
use lib.Dec.{eqb, ltb}
use Rattle.base_bits.proofs.Tables.{agree_below}
use Rattle.base_chip.specs.declared.Part.TheVariants.{Ad9557, Ad9508}
use Rattle.base_chip.specs.declared.Chip.{Chip}
use Rattle.base_chip.specs.declared.Chip.TheVariants.{Newer, Older}
use Rattle.base_chip.specs.Registers.{configuration_a, configuration_b, transfer_register, serial_control, readback_control, older_transfer}
use Rattle.base_chip.specs.Chip.{part_reads_buffer}
use Rattle.map_format.specs.Format.{control}
use Rattle.map_test.specs.MapTest.{free, place_kinds, older_kinds, kinds_of, as_asked, place_rule}

-- inside a table the default doesn't matter
pub in_table : (kinds : List ℕ) (a : ℕ) → a < length kinds → get_or kinds a 0 ≡ get_or kinds a free
in_table kinds a h = cc (drop-cons kinds a free h, drop-cons kinds a 0 h)

pub at_place : (kinds : List ℕ) (a k : ℕ) → a < length kinds → as_asked (get_or kinds a 0) k ≡ place_rule kinds a k
unfolding place_rule
at_place kinds a k h = ap (λ (p : ℕ). as_asked p k) (in_table kinds a h)

-- beyond a table every place is free, as by the empty table
pub beyond_table : (kinds : List ℕ) (a : ℕ) → length kinds ≤ a → get_or kinds a free ≡ free
beyond_table kinds a h = get_or-eq_default kinds free h

pub beyond_free : (kinds : List ℕ) (a k : ℕ) → length kinds ≤ a → place_rule [] a k ≡ place_rule kinds a k
unfolding place_rule
beyond_free kinds a k h = ap (λ (p : ℕ). as_asked p k) (sym (beyond_table kinds a h))

abbrev asks_control : List ℕ → ℕ → Bool
asks_control kinds a = eqb (get_or kinds a free) control

-- the places where control stands
abbrev pub control_place : Chip → ℕ → Bool
control_place Newer a = eqb a configuration_a || (eqb a configuration_b || eqb a transfer_register)
control_place (Older part top) a = eqb a serial_control || (eqb a older_transfer || (eqb a readback_control && part_reads_buffer part))

-- a table and a test of places: they agree everywhere if they do at its places, and the test fails beyond
by_table :
    (kinds : List ℕ) (place : ℕ → Bool) → ((a : ℕ) → a < length kinds → asks_control kinds a ≡ place a)
    → ((a : ℕ) → length kinds ≤ a → place a ≡ false) → (a : ℕ) → asks_control kinds a ≡ place a
by_table kinds place inside outside a = go (ltb a (length kinds)) refl
  where
    go : (b : Bool) → ltb a (length kinds) ≡ b → asks_control kinds a ≡ place a
    go true e = inside a (ltb-true a (length kinds) e)
    go false e =
        let h = ltb-false a (length kinds) e in
        ap (λ (p : ℕ). eqb p control) (beyond_table kinds a h) ∙ sym (outside a h)

-- Each table asks for control at these places alone: computed at its own, and beyond them all is free.
asks_control_lem : (c : Chip) (a : ℕ) → asks_control (kinds_of c) a ≡ control_place c a
asks_control_lem Newer =
    by_table place_kinds (control_place Newer) (agree_below (asks_control place_kinds) (control_place Newer) 16 refl)
    (λ a h. rw (ne_eqb a configuration_a (λ z. omega arith), ne_eqb a configuration_b (λ z. omega arith), ne_eqb a transfer_register (λ z. omega arith)))
asks_control_lem (Older Ad9557 top) =
    by_table (older_kinds Ad9557) (control_place (Older Ad9557 top))
    (agree_below (asks_control (older_kinds Ad9557)) (control_place (Older Ad9557 top)) 6 refl)
    (λ a h. rw (ne_eqb a serial_control (λ z. omega arith), ne_eqb a older_transfer (λ z. omega arith), ne_eqb a readback_control (λ z. omega arith)))
asks_control_lem (Older Ad9508 top) =
    by_table (older_kinds Ad9508) (control_place (Older Ad9508 top))
    (agree_below (asks_control (older_kinds Ad9508)) (control_place (Older Ad9508 top)) 6 refl)
    (λ a h. rw (ne_eqb a serial_control (λ z. omega arith), ne_eqb a older_transfer (λ z. omega arith), ne_eqb a readback_control (λ z. omega arith)))

-- a kind that is as the place p asks is control where p is
control_as_asked : (p k : ℕ) → as_asked p k ≡ true → eqb k control ≡ eqb p control
control_as_asked p k h = go (eqb p free) refl
  where
    go : (b : Bool) → eqb p free ≡ b → eqb k control ≡ eqb p control
    go true e = not-true (eqb k control) (rw e at h) ∙ sym (ap (λ (x : ℕ). eqb x control) (eqb-true p free e))
    go false e = ap (λ (x : ℕ). eqb x control) (eqb-true k p (rw e at h))

pub placed_control : (c : Chip) (a k : ℕ) → place_rule (kinds_of c) a k ≡ true → eqb k control ≡ control_place c a
unfolding place_rule
placed_control c a k h = control_as_asked (get_or (kinds_of c) a free) k h ∙ asks_control_lem c a
