-- How many samples are read: up to and with the first that gives a record, or all of them.
use Prim.Native.Nat.{ℕ, zero, suc, ◌+◌, ◌<◌}
use mathlib.Core.Path.{◌≡◌, refl}
use mathlib.Core.Bool.{Bool, true, false, cond}
use mathlib.Core.List.{List, [], ◌∷◌}
use native.Mathlib.Omega.{arith}
use native.Mathlib.Numerals.{add-one}
use lib.Dec.{eqb}
use lib.ListN.{length, take}
use borrow.Author.Tests.{eqb-true, eqb-false}
use Rattle.base_chip.specs.declared.Chip.{Chip}
use Rattle.bus_session.specs.declared.Port.{Port}
use Rattle.bus_session.specs.Step.{step_of}
use Rattle.bus_session.specs.Event.{event_of}
use Rattle.read_records.specs.Records.{records_in}
use Rattle.read_run.specs.Reading.{record_count}
use Rattle.read_next.specs.NextRecord.{taken_of, first_of}

-- None of the samples before the last gives a record.
pub none_before : (c : Chip) (s : Port) (xs : List ℕ) (k : ℕ) → k < taken_of c s xs → record_count c s (take k xs) ≡ 0
unfolding taken_of record_count
none_before c s xs zero h = refl
none_before c s [] (suc k) h = refl
none_before c s (x ∷ xs) (suc k) h = go (eqb (records_in (event_of c s x)) 0) refl h (λ l. none_before c (step_of c s x) xs k l)
  where
    go : (z : Bool) → eqb (records_in (event_of c s x)) 0 ≡ z → suc k < cond z (taken_of c (step_of c s x) xs + 1) 1
        → (k < taken_of c (step_of c s x) xs → record_count c (step_of c s x) (take k xs) ≡ 0)
        → records_in (event_of c s x) + record_count c (step_of c s x) (take k xs) ≡ 0
    go true z h rest = omega (arith, eqb-true (records_in (event_of c s x)) 0 z, rest (omega (arith, h)))
    go false z h rest = absurd (omega (arith, h))

-- Without a record all samples are read.
pub all_without : (c : Chip) (s : Port) (xs : List ℕ) → record_count c s (first_of c s xs) ≡ 0 → taken_of c s xs ≡ length xs
unfolding taken_of record_count
all_without c s [] h = refl
all_without c s (x ∷ xs) h = go (eqb (records_in (event_of c s x)) 0) refl h (λ e. all_without c (step_of c s x) xs e)
  where
    go : (z : Bool) → eqb (records_in (event_of c s x)) 0 ≡ z → record_count c s (take (cond z (taken_of c (step_of c s x) xs + 1) 1) (x ∷ xs)) ≡ 0
        → (record_count c (step_of c s x) (first_of c (step_of c s x) xs) ≡ 0 → taken_of c (step_of c s x) xs ≡ length xs)
        → cond z (taken_of c (step_of c s x) xs + 1) 1 ≡ suc (length xs)
    go true z h rest = omega (arith, rest (omega (arith, rw (add-one (taken_of c (step_of c s x) xs)) at h)))
    go false z h rest = absurd (eqb-false (records_in (event_of c s x)) 0 z (omega (arith, h)))
