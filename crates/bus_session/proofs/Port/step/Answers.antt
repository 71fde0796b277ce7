-- `Port::step` meets its contract: the definition's tests in its order, on a session that has the sample's levels already.
use Prim.Native.Nat.{ℕ}
use lib.Dec.{eqb}
use mathlib.Core.Bool.{Bool, cond, not, ◌&&◌}
use mathlib.Core.Path.{◌≡◌, refl, ap, sym, ◌∙◌}
use Rattle.base_bits.proofs.Cases.{yes, no}
use Rattle.base_chip.specs.declared.Chip.{Chip}
use Rattle.bus_settings.specs.declared.InUse.{InUse}
use Rattle.bus_session.specs.declared.Phase.{Phase}
use Rattle.bus_session.specs.declared.Port.{Port}
use Rattle.bus_session.specs.State.{at_levels, with_levels, resting, starting, may_stall}
use Rattle.bus_session.specs.Step.{csb_of, sclk_of, sdio_of, sdo_of, takes_bit, with_instruction_bit, with_data_bit, with_bit, step_of}
use Rattle.bus_session.proofs.Port.step.Goals as goal

-- the step of s, by whether it takes a bit, the levels of its sample, and whether s may stall
abbrev step_by : Chip → Port → ℕ → Bool → Bool → Bool → Bool → Port
step_by k s x takes csb sclk stalls =
    cond ((s.csb && not csb) && eqb s.left 0) (starting sclk s.settings)
    (cond takes (with_bit k s.phase s x)
    (cond ((not s.csb && csb) && not stalls) (resting sclk s.settings)
    (at_levels s csb sclk)))

step_by_lem : (k : Chip) (s : Port) (x : ℕ) {takes csb sclk stalls : Bool} → takes ≡ takes_bit s x → csb ≡ csb_of x → sclk ≡ sclk_of x
    → stalls ≡ may_stall s → step_by k s x takes csb sclk stalls ≡ step_of k s x
unfolding step_of
step_by_lem k s x d e f h = λ i. step_by k s x (d i) (e i) (f i) (h i)

pub returns-then-csb_before-self : goal.returns-then-csb_before-self
returns-then-csb_before-self c =
    let a = c.args in
    yes _ c.if-csb_before-self.true c.starting.ensures
    ∙ step_by_lem a.chip a.self a.sample c.takes_bit-takes_bit.ensures c.bit_at.ensures
    c.bit_at-2.ensures refl

pub returns-in-Rest : goal.returns-in-Rest
returns-in-Rest c =
    let a = c.args in
    let v : at_levels a.self c.bit_at.result
    c.bit_at-2.result
    ≡ with_levels a.self a.sample =
    λ i. at_levels a.self (c.bit_at.ensures i)
    (c.bit_at-2.ensures i) in
    no _ c.if-csb_before-self.false
    (yes _ c.if-takes_bit.true (v ∙ ap (λ (p : Phase). with_bit a.chip p a.self a.sample) (sym c.in-Rest.is)))
    ∙ step_by_lem a.chip a.self a.sample c.takes_bit-takes_bit.ensures c.bit_at.ensures
    c.bit_at-2.ensures refl

pub returns-in-Instruction : goal.returns-in-Instruction
unfolding with_instruction_bit
returns-in-Instruction c =
    let a = c.args in
    no _ c.if-csb_before-self.false
    (yes _ c.if-takes_bit.true
    (c.with_instruction_bit.ensures ∙ ap (with_instruction_bit a.chip a.self) c.bit_at-in-Instruction.ensures
    ∙ ap (λ (p : Phase). with_bit a.chip p a.self a.sample) (sym c.in-Instruction.is)))
    ∙ step_by_lem a.chip a.self a.sample c.takes_bit-takes_bit.ensures
    c.bit_at.ensures
    c.bit_at-2.ensures refl

pub returns-in-Data : goal.returns-in-Data
unfolding with_data_bit
returns-in-Data c =
    let a = c.args in
    let e =
    c.data_line.ensures
    ∙ ap (λ (u : InUse). cond (a.self.read && u.sdo_active) (sdo_of a.sample) (sdio_of a.sample)) c.counting-sdo_active.ensures in
    no _ c.if-csb_before-self.false
    (yes _ c.if-takes_bit.true
    (c.with_data_bit.ensures ∙ ap (with_data_bit a.chip a.self) e
    ∙ ap (λ (p : Phase). with_bit a.chip p a.self a.sample) (sym c.in-Data.is)))
    ∙ step_by_lem a.chip a.self a.sample c.takes_bit-takes_bit.ensures
    c.bit_at.ensures
    c.bit_at-2.ensures refl

pub returns-then-csb_before-self-2 : goal.returns-then-csb_before-self-2
returns-then-csb_before-self-2 c =
    let a = c.args in
    no _ c.if-csb_before-self.false
    (no _ c.if-takes_bit.false (yes _ c.if-csb_before-self-2.true c.resting.ensures))
    ∙ step_by_lem a.chip a.self a.sample c.takes_bit-takes_bit.ensures
    c.bit_at.ensures
    c.bit_at-2.ensures c.may_stall.ensures

pub returns : goal.returns
returns c =
    let a = c.args in
    no _ c.if-csb_before-self.false (no _ c.if-takes_bit.false (no _ c.if-csb_before-self-2.false refl))
    ∙ step_by_lem a.chip a.self a.sample c.takes_bit-takes_bit.ensures
    c.bit_at.ensures
    c.bit_at-2.ensures c.may_stall.ensures
