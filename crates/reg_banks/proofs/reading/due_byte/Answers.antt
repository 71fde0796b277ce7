-- `due_byte` meets its contract: each return has gone by the tests of the definition, with the kind of the
-- register at the address; one that is not blank is in the banks.
use borrow.Author.Tests.{eq-eqb, ne_eqb}
use native.Mathlib.Omega.{arith}
use mathlib.Core.Path.{◌≡◌, refl}
use mathlib.Core.Bool.{true, false, ◌&&◌}
use mathlib.Core.Logic.{◌≢◌}
use mathlib.Core.List.{List}
use Prim.Native.Nat.{ℕ}
use lib.ListN.{get_or}
use lib.Dec.{eqb}
use Rattle.base_bits.proofs.Cases.{yes, no}
use Rattle.map_format.specs.Format.{register_at, blank, buffered, control}
use Rattle.base_chip.specs.declared.Chip.{Chip}
use Rattle.base_chip.specs.Chip.{reads_buffer}
use Rattle.bus_settings.specs.declared.Settings.{Settings}
use Rattle.reg_banks.specs.Banks.{Banks}
use Rattle.reg_banks.specs.Read.{due_byte}
use Rattle.reg_banks.proofs.Laws.{in_banks}
use Rattle.reg_banks.proofs.reading.due_byte.Goals as goal

module _ (k' : Chip) (m : List ℕ) (b : Banks) (t : Settings) (a k : ℕ) (is : (register_at m a).kind ≡ k) (no-blank : k ≢ blank) (no-control : k ≢ control) where
  waits : (eqb k buffered && (t.readback && reads_buffer k')) ≡ true → get_or b.buffer a 0 ≡ due_byte k' m b t a
  unfolding due_byte
  waits h = rw (is, ne_eqb k blank no-blank, ne_eqb k control no-control) (yes _ h refl)

  in_force_lem : (eqb k buffered && (t.readback && reads_buffer k')) ≡ false → get_or b.active a 0 ≡ due_byte k' m b t a
  unfolding due_byte
  in_force_lem h = rw (is, ne_eqb k blank no-blank, ne_eqb k control no-control) (no _ h refl)

pub returns-then-kind-eq-BLANK : goal.returns-then-kind-eq-BLANK
unfolding due_byte
returns-then-kind-eq-BLANK c =
    let kind_is : let a = c.args in (register_at a.map.now a.address).kind ≡ c.entry_at-kind.result.kind =
    rw (c.entry_at-kind.ensures, c.requires.active_size) in
    rw (kind_is, eq-eqb _ _ c.if-kind-eq-BLANK.true)

pub returns-then-kind-eq-CONTROL : goal.returns-then-kind-eq-CONTROL
unfolding due_byte
returns-then-kind-eq-CONTROL c =
    let kind_is : let a = c.args in (register_at a.map.now a.address).kind ≡ c.entry_at-kind.result.kind =
    rw (c.entry_at-kind.ensures, c.requires.active_size) in
    rw (kind_is, ne_eqb _ _ c.if-kind-eq-BLANK.false, eq-eqb _ _ c.if-kind-eq-CONTROL.true) c.reading.ensures

pub bounds-buffer-at : goal.bounds-buffer-at
bounds-buffer-at c =
    let kind_is : let a = c.args in (register_at a.map.now a.address).kind ≡ c.entry_at-kind.result.kind =
    rw (c.entry_at-kind.ensures, c.requires.active_size) in
    omega (arith, in_banks c.requires kind_is c.if-kind-eq-BLANK.false)

pub returns-then-kind-settings : goal.returns-then-kind-settings
returns-then-kind-settings c =
    let kind_is : let a = c.args in (register_at a.map.now a.address).kind ≡ c.entry_at-kind.result.kind =
    rw (c.entry_at-kind.ensures, c.requires.active_size) in
    waits _ _ _ _ _ _ kind_is c.if-kind-eq-BLANK.false c.if-kind-eq-CONTROL.false
    (rw c.reads_buffer.ensures at c.if-kind-settings.true)

pub bounds-active-at : goal.bounds-active-at
bounds-active-at c =
    let kind_is : let a = c.args in (register_at a.map.now a.address).kind ≡ c.entry_at-kind.result.kind =
    rw (c.entry_at-kind.ensures, c.requires.active_size) in
    omega (arith, in_banks c.requires kind_is c.if-kind-eq-BLANK.false)

pub returns : goal.returns
returns c =
    let kind_is : let a = c.args in (register_at a.map.now a.address).kind ≡ c.entry_at-kind.result.kind =
    rw (c.entry_at-kind.ensures, c.requires.active_size) in
    in_force_lem _ _ _ _ _ _ kind_is c.if-kind-eq-BLANK.false c.if-kind-eq-CONTROL.false
    (rw c.reads_buffer.ensures at c.if-kind-settings.false)
