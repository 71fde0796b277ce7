-- `Settings::after_newer` meets its contract: each branch sets the fields that the definition names for its address.
use Prim.Native.Nat.{ℕ}
use mathlib.Core.Bool.{Bool, cond}
use mathlib.Core.Path.{◌≡◌, refl, sym, ◌∙◌}
use borrow.Author.Tests.{eq-eqb, ne_eqb}
use Rattle.base_bits.specs.Bits.{bit_at}
use Rattle.base_bits.proofs.Cases.{yes, no}
use Rattle.bus_settings.specs.declared.Settings.{Settings}
use Rattle.bus_settings.specs.Bits.{lsb_first_bit, ascending_bit, sdo_active_bit, single_instruction_bit, buffer_readback_bit}
use Rattle.bus_settings.specs.Settings.{all_clear, with_first_three, with_last_two, resets, configured, configured_b, newer_after}
use Rattle.bus_settings.proofs.Settings.after_newer.Goals as goal

-- what 0x0000 makes of the settings, by the bits of the byte
abbrev configured_by : Settings → Bool → Bool → Bool → Bool → Settings
configured_by t lsb ascending sdo reset = with_first_three (cond reset all_clear t) lsb ascending sdo

configured_by_lem : (t : Settings) (v : ℕ) {lsb ascending sdo reset : Bool}
    → lsb ≡ bit_at v lsb_first_bit → ascending ≡ bit_at v ascending_bit → sdo ≡ bit_at v sdo_active_bit → reset ≡ resets v
    → configured_by t lsb ascending sdo reset ≡ configured t v
configured_by_lem t v e f g h = λ i. configured_by t (e i) (f i) (g i) (h i)

configured_b_by : (t : Settings) (v : ℕ) {single readback : Bool}
    → single ≡ bit_at v single_instruction_bit → readback ≡ bit_at v buffer_readback_bit → with_last_two t single readback ≡ configured_b t v
configured_b_by t v e f = λ i. with_last_two t (e i) (f i)

pub returns-then-not-is_mirror : goal.returns-then-not-is_mirror
unfolding newer_after
returns-then-not-is_mirror c =
    yes _ (eq-eqb _ _ c.if-address-eq-CONFIGURATION_A.true)
    (no _ (sym c.is_mirror.ensures ∙ c.if-not-is_mirror.true) refl)

pub returns-then-asks_reset : goal.returns-then-asks_reset
unfolding newer_after
returns-then-asks_reset c =
    yes _ (eq-eqb _ _ c.if-address-eq-CONFIGURATION_A.true)
    (yes _ (sym c.is_mirror.ensures ∙ c.if-not-is_mirror.false)
    (configured_by_lem c.args.self _ c.bit_at.ensures c.bit_at-then-address-eq-CONFIGURATION_A.ensures
    c.bit_at-then-address-eq-CONFIGURATION_A-2.ensures (sym c.if-asks_reset.true ∙ c.asks_reset.ensures)))

pub returns-else-asks_reset : goal.returns-else-asks_reset
unfolding newer_after
returns-else-asks_reset c =
    yes _ (eq-eqb _ _ c.if-address-eq-CONFIGURATION_A.true)
    (yes _ (sym c.is_mirror.ensures ∙ c.if-not-is_mirror.false)
    (configured_by_lem c.args.self _ c.bit_at.ensures c.bit_at-then-address-eq-CONFIGURATION_A.ensures
    c.bit_at-then-address-eq-CONFIGURATION_A-2.ensures (sym c.if-asks_reset.false ∙ c.asks_reset.ensures)))

pub returns-then-address-eq-CONFIGURATION_B : goal.returns-then-address-eq-CONFIGURATION_B
unfolding newer_after
returns-then-address-eq-CONFIGURATION_B c =
    no _ (ne_eqb _ _ c.if-address-eq-CONFIGURATION_A.false)
    (yes _ (eq-eqb _ _ c.if-address-eq-CONFIGURATION_B.true)
    (configured_b_by c.args.self _ c.bit_at-then-address-eq-CONFIGURATION_B.ensures c.bit_at-then-address-eq-CONFIGURATION_B-2.ensures))

pub returns-else-address-eq-CONFIGURATION_B : goal.returns-else-address-eq-CONFIGURATION_B
unfolding newer_after
returns-else-address-eq-CONFIGURATION_B c = rw (ne_eqb _ _ c.if-address-eq-CONFIGURATION_A.false, ne_eqb _ _ c.if-address-eq-CONFIGURATION_B.false)
