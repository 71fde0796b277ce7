-- `Settings::after_older` meets its contract: each branch sets the field that the definition names for its address.
use mathlib.Core.Path.{refl}
use borrow.Author.Tests.{eq-eqb, ne_eqb}
use Rattle.base_bits.proofs.Cases.{yes, no}
use Rattle.bus_settings.specs.Settings.{older_after}
use Rattle.bus_settings.proofs.Settings.after_older.Goals as goal

pub returns-then-address-eq-SERIAL_CONTROL : goal.returns-then-address-eq-SERIAL_CONTROL
unfolding older_after
returns-then-address-eq-SERIAL_CONTROL c = yes _ (eq-eqb _ _ c.if-address-eq-SERIAL_CONTROL.true) (rw c.bit_at.ensures)

pub returns-then-address-part_reads_buffer : goal.returns-then-address-part_reads_buffer
unfolding older_after
returns-then-address-part_reads_buffer c =
    no _ (ne_eqb _ _ c.if-address-eq-SERIAL_CONTROL.false)
    (yes _ (rw c.part_reads_buffer.ensures at c.if-address-part_reads_buffer.true) (rw c.bit_at-then-address-part_reads_buffer.ensures))

pub returns-else-address-part_reads_buffer : goal.returns-else-address-part_reads_buffer
unfolding older_after
returns-else-address-part_reads_buffer c = no _ (ne_eqb _ _ c.if-address-eq-SERIAL_CONTROL.false) (no _ (rw c.part_reads_buffer.ensures at c.if-address-part_reads_buffer.false) refl)
