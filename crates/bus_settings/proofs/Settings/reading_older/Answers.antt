-- `Settings::reading_older` meets its contract: the flag of the register at its address.
use mathlib.Core.Path.{refl}
use borrow.Author.Tests.{eq-eqb, ne_eqb}
use Rattle.base_bits.proofs.Cases.{yes, no}
use Rattle.bus_settings.specs.Settings.{older_reading}
use Rattle.bus_settings.proofs.Settings.reading_older.Goals as goal

pub returns-then-address-eq-SERIAL_CONTROL : goal.returns-then-address-eq-SERIAL_CONTROL
unfolding older_reading
returns-then-address-eq-SERIAL_CONTROL c = yes _ (eq-eqb _ _ c.if-address-eq-SERIAL_CONTROL.true) c.flag.ensures

pub returns-then-address-eq-READBACK_CONTROL : goal.returns-then-address-eq-READBACK_CONTROL
unfolding older_reading
returns-then-address-eq-READBACK_CONTROL c = no _ (ne_eqb _ _ c.if-address-eq-SERIAL_CONTROL.false) (yes _ (eq-eqb _ _ c.if-address-eq-READBACK_CONTROL.true) c.flag-then-address-eq-READBACK_CONTROL.ensures)

pub returns : goal.returns
unfolding older_reading
returns c = no _ (ne_eqb _ _ c.if-address-eq-SERIAL_CONTROL.false) (no _ (ne_eqb _ _ c.if-address-eq-READBACK_CONTROL.false) refl)
