-- `Port::with_data_bit` meets its contract: the eighth bit makes a byte whole, and its value is below 256.
use Prim.Native.Nat.{ℕ, ◌+◌}
use mathlib.Core.Bool.{Bool, true, cond}
use mathlib.Core.Path.{◌≡◌, refl, ap, ◌∙◌}
use lib.Dec.{ltb}
use borrow.Author.Tests.{lt-ltb, le-ltb}
use Rattle.base_bits.proofs.Cases.{yes, no}
use Rattle.base_chip.specs.declared.Chip.{Chip}
use Rattle.bus_settings.specs.declared.Settings.{Settings}
use Rattle.bus_session.specs.declared.Port.{Port}
use Rattle.bus_session.specs.State.{in_data}
use Rattle.bus_session.specs.Step.{value_with, settings_on_byte, after_byte, with_data_bit}
use Rattle.bus_session.proofs.Port.with_data_bit.Goals as goal

-- s with one more bit, by the value that it makes, and the settings after a whole byte
abbrev bit_by : Chip → Port → ℕ → Settings → Port
bit_by k s v t =
    cond (ltb s.bits 7) (in_data true (s.bits + 1) v s.address s.read s.left s.settings s.in_use) (after_byte k s t)

bit_by_lem : (k : Chip) (s : Port) (b : Bool) {v : ℕ} {t : Settings} → v ≡ value_with s b → t ≡ settings_on_byte k s v → bit_by k s v t ≡ with_data_bit k s b
unfolding with_data_bit
bit_by_lem k s b e f =
    let h = f ∙ ap (settings_on_byte k s) e in
    λ i. bit_by k s (e i) (h i)

pub returns-then-self-lt7 : goal.returns-then-self-lt7
returns-then-self-lt7 c = yes _ (lt-ltb _ _ c.if-self-lt7.true) c.in_data.ensures ∙ bit_by_lem _ _ _ c.shift_in-value.ensures refl

pub returns : goal.returns
returns c =
    no _ (le-ltb _ _ c.if-self-lt7.false) c.after_byte.ensures
    ∙ bit_by_lem _ _ _ c.shift_in-value.ensures c.settings_on_byte-settings.ensures
