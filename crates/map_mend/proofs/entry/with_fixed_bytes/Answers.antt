-- `with_fixed_bytes` meets its contract: each arm is an arm of the definition.
use mathlib.Core.Path.{refl}
use borrow.Author.Tests.{eq-eqb, ne_eqb}
use Rattle.base_bits.proofs.Cases.{yes, no}
use Rattle.map_mend.specs.Entry.{with_fixed_bytes}
use Rattle.map_mend.proofs.entry.with_fixed_bytes.Goals as goal

pub returns-then-address-eq-SCRATCH_PLACE : goal.returns-then-address-eq-SCRATCH_PLACE
unfolding with_fixed_bytes
returns-then-address-eq-SCRATCH_PLACE c = yes _ (eq-eqb _ _ c.if-address-eq-SCRATCH_PLACE.true) refl

pub returns-then-address-eq-VENDOR_LOW_PLACE : goal.returns-then-address-eq-VENDOR_LOW_PLACE
unfolding with_fixed_bytes
returns-then-address-eq-VENDOR_LOW_PLACE c = no _ (ne_eqb _ _ c.if-address-eq-SCRATCH_PLACE.false) (yes _ (eq-eqb _ _ c.if-address-eq-VENDOR_LOW_PLACE.true) refl)

pub returns-then-address-eq-VENDOR_HIGH_PLACE : goal.returns-then-address-eq-VENDOR_HIGH_PLACE
unfolding with_fixed_bytes
returns-then-address-eq-VENDOR_HIGH_PLACE c =
    no _ (ne_eqb _ _ c.if-address-eq-SCRATCH_PLACE.false) (no _ (ne_eqb _ _ c.if-address-eq-VENDOR_LOW_PLACE.false) (yes _ (eq-eqb _ _ c.if-address-eq-VENDOR_HIGH_PLACE.true) refl))

pub returns : goal.returns
unfolding with_fixed_bytes
returns c =
    no _ (ne_eqb _ _ c.if-address-eq-SCRATCH_PLACE.false) (no _ (ne_eqb _ _ c.if-address-eq-VENDOR_LOW_PLACE.false) (no _ (ne_eqb _ _ c.if-address-eq-VENDOR_HIGH_PLACE.false) refl))
