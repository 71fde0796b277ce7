-- `next_turn` meets its contract: one return for each answer of the test.
use mathlib.Core.Path.{refl}
use borrow.Author.Tests.{lt-ltb, le-ltb}
use Rattle.base_bits.proofs.Cases.{yes, no}
use Rattle.several_chips.proofs.step.next_turn.Goals as goal

pub returns-then-chip-chips : goal.returns-then-chip-chips
returns-then-chip-chips c = yes _ (lt-ltb _ _ c.if-chip-chips.true) refl

pub returns : goal.returns
returns c = no _ (le-ltb _ _ c.if-chip-chips.false) refl
