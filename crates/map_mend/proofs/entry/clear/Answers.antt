-- `clear` meets its contract: each arm is an arm of the definition.
use mathlib.Core.Path.{refl}
use borrow.Author.Tests.{eq-eqb, ne_eqb}
use Rattle.base_bits.proofs.Cases.{yes, no}
use Rattle.map_mend.specs.Entry.{cleared}
use Rattle.map_mend.proofs.entry.clear.Goals as goal

pub returns-then-entry : goal.returns-then-entry
unfolding cleared
returns-then-entry c = yes _ c.if-entry.true refl

pub returns-then-entry-eq-READ_ONLY : goal.returns-then-entry-eq-READ_ONLY
unfolding cleared
returns-then-entry-eq-READ_ONLY c = no _ c.if-entry.false (yes _ (eq-eqb _ _ c.if-entry-eq-READ_ONLY.true) refl)

pub returns : goal.returns
unfolding cleared
returns c = no _ c.if-entry.false (no _ (ne_eqb _ _ c.if-entry-eq-READ_ONLY.false) refl)
