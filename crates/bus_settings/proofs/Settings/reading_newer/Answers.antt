-- `Settings::reading_newer` meets its contract: the reading is the sum of the flags of one register.
use Prim.Native.Nat.{◌+◌}
use mathlib.Core.Path.{refl}
use borrow.Author.Tests.{eq-eqb, ne_eqb}
use Rattle.base_bits.proofs.Cases.{yes, no}
use Rattle.bus_settings.specs.Settings.{newer_reading}
use Rattle.bus_settings.proofs.Settings.reading_newer.Goals as goal

pub returns-then-address-eq-CONFIGURATION_A : goal.returns-then-address-eq-CONFIGURATION_A
unfolding newer_reading
returns-then-address-eq-CONFIGURATION_A c =
    yes _ (eq-eqb _ _ c.if-address-eq-CONFIGURATION_A.true)
    (λ i. c.flag.ensures i + c.flag-then-address-eq-CONFIGURATION_A.ensures i + c.flag-then-address-eq-CONFIGURATION_A-2.ensures i)

pub returns-then-address-eq-CONFIGURATION_B : goal.returns-then-address-eq-CONFIGURATION_B
unfolding newer_reading
returns-then-address-eq-CONFIGURATION_B c =
    no _ (ne_eqb _ _ c.if-address-eq-CONFIGURATION_A.false)
    (yes _ (eq-eqb _ _ c.if-address-eq-CONFIGURATION_B.true)
    (λ i. c.flag-then-address-eq-CONFIGURATION_B.ensures i + c.flag-then-address-eq-CONFIGURATION_B-2.ensures i))

pub returns : goal.returns
unfolding newer_reading
returns c = no _ (ne_eqb _ _ c.if-address-eq-CONFIGURATION_A.false) (no _ (ne_eqb _ _ c.if-address-eq-CONFIGURATION_B.false) refl)
