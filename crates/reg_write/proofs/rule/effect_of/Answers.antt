-- `effect_of` meets its contract: each return has gone by the tests of the definition.
use borrow.Author.Tests.{eq-eqb, ne_eqb}
use mathlib.Core.Path.{refl, ◌∙◌}
use Rattle.base_bits.proofs.Cases.{yes, no}
use Rattle.reg_write.proofs.Laws.{byte_effect_lem, other_effect}
use Rattle.reg_write.proofs.rule.effect_of.Goals as goal

pub returns-then-register-buffered : goal.returns-then-register-buffered
returns-then-register-buffered c =
    let a = c.args in
    byte_effect_lem a.chip a.register a.stages a.address a.v c.if-register-buffered.true c.one_of-old.ensures c.merge-byte.ensures

pub returns-then-register-eq-CONTROL : goal.returns-then-register-eq-CONTROL
returns-then-register-eq-CONTROL c =
    let a = c.args in
    yes _ (eq-eqb _ _ c.if-register-eq-CONTROL.true) c.control_effect.ensures
    ∙ other_effect a.chip a.register a.stages a.address a.v c.if-register-buffered.false

pub returns : goal.returns
returns c =
    let a = c.args in
    no _ (ne_eqb _ _ c.if-register-eq-CONTROL.false) refl ∙ other_effect a.chip a.register a.stages a.address a.v c.if-register-buffered.false
