-- `Port::with_instruction_bit` meets its contract: the sixteenth bit makes the instruction whole.
use Prim.Native.Nat.{ℕ, ◌+◌}
use mathlib.Core.Bool.{Bool, true, cond}
use mathlib.Core.Path.{◌≡◌, ap, ◌∙◌}
use lib.Dec.{ltb}
use borrow.Author.Tests.{lt-ltb, le-ltb}
use Rattle.base_bits.proofs.Cases.{yes, no}
use Rattle.base_chip.specs.declared.Chip.{Chip}
use Rattle.bus_session.specs.declared.Port.{Port}
use Rattle.bus_session.specs.State.{instructing}
use Rattle.bus_session.specs.Step.{value_with, entered, with_instruction_bit}
use Rattle.bus_session.proofs.Port.with_instruction_bit.Goals as goal

-- s with one more bit, by the value that it makes
abbrev bit_by : Chip → Port → ℕ → Port
bit_by k s v =
    cond (ltb s.bits 15) (instructing true (s.bits + 1) v s.settings s.in_use)
    (entered k v s.settings s.in_use)

bit_by_lem : (k : Chip) (s : Port) (b : Bool) {v : ℕ} → v ≡ value_with s b → bit_by k s v ≡ with_instruction_bit k s b
unfolding with_instruction_bit
bit_by_lem k s b e = ap (bit_by k s) e

pub returns-then-self-lt15 : goal.returns-then-self-lt15
returns-then-self-lt15 c =
    yes _ (lt-ltb _ _ c.if-self-lt15.true) c.instructing.ensures
    ∙ bit_by_lem _ _ _ c.shift_in-value.ensures

pub returns : goal.returns
returns c =
    no _ (le-ltb _ _ c.if-self-lt15.false) c.entered.ensures
    ∙ bit_by_lem _ _ _ c.shift_in-value.ensures
