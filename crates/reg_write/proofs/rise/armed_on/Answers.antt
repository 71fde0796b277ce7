-- `armed_on` meets its contract: the tests of the definition, in its order.
use borrow.Author.Tests.{eq-eqb, ne_eqb}
use mathlib.Core.Path.{refl}
use lib.Dec.{eqb}
use Rattle.base_bits.proofs.Cases.{yes, no}
use Rattle.reg_write.specs.Rise.{armed_on}
use Rattle.reg_write.proofs.Laws.{armed_joined}
use Rattle.reg_write.proofs.rise.armed_on.Goals as goal

pub returns-then-effect-eq-EFFECT_RESET : goal.returns-then-effect-eq-EFFECT_RESET
unfolding armed_on
returns-then-effect-eq-EFFECT_RESET c = yes _ (eq-eqb _ _ c.if-effect-eq-EFFECT_RESET.true) refl

pub returns : goal.returns
unfolding armed_on
returns c =
    let a = c.args in
    no _ (ne_eqb _ _ c.if-effect-eq-EFFECT_RESET.false) (armed_joined a.armed (eqb a.effect 2) a.moves)
