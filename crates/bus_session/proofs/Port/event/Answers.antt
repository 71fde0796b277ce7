-- `Port::event` meets its contract: the tests of the definition, in its order, where the code joins two of them that both have to hold.
use Prim.Native.Nat.{ℕ}
use mathlib.Core.Path.{◌≡◌, refl, ap, ◌∙◌}
use mathlib.Core.Bool.{Bool, true, false, cond, not, ◌&&◌, ◌||◌}
use lib.Dec.{eqb, ltb}
use borrow.Author.Tests.{eq-eqb, ne_eqb}
use Rattle.base_bits.proofs.Cases.{yes, no}
use Rattle.base_chip.specs.declared.Chip.{Chip}
use Rattle.bus_settings.specs.declared.InUse.{InUse}
use Rattle.bus_session.specs.declared.Port.{Port}
use Rattle.bus_session.specs.declared.Event.{Event}
use Rattle.bus_session.specs.declared.Event.TheVariants.{Nothing, Whole, Aborted, Ended}
use Rattle.bus_session.specs.Step.{sdio_of, sdo_of, csb_of, csb_rises, takes_bit, value_with, data_line}
use Rattle.bus_session.specs.State.{is_data, may_stall}
use Rattle.bus_session.specs.Event.{bit_event, end_event, event_of}
use Rattle.bus_session.proofs.Port.event.Goals as goal

-- nothing where the first test fails or the second holds
nested_tests : (a b : Bool) (e : Event) → cond (not a || b) Nothing e ≡ cond a (cond b Nothing e) Nothing
nested_tests true b e = refl
nested_tests false b e = refl

-- nothing where a test fails or another holds
unless_both : (a b : Bool) (e : Event) → cond (not a || b) Nothing e ≡ cond (a && not b) e Nothing
unless_both true true e = refl
unless_both true false e = refl
unless_both false b e = refl

-- the event of s, by whether it takes a bit, whether that is data, and the level of CSB
abbrev event_by : Chip → Port → ℕ → Bool → Bool → Bool → Bool → Event
event_by k s x takes is_data_piece csb stall =
    cond takes
    (cond (not is_data_piece || ltb s.bits 7) Nothing (Whole s.read s.address (value_with s (data_line k s x))))
    (cond (not (not s.csb && csb) || stall) Nothing (cond (eqb s.bits 0) Ended (Aborted s.address s.bits is_data_piece)))

event_by_lem : (k : Chip) (s : Port) (x : ℕ) {takes is_data_piece csb stall : Bool} → takes ≡ takes_bit s x → is_data_piece ≡ is_data s.phase → csb ≡ csb_of x
    → stall ≡ may_stall s
    → event_by k s x takes is_data_piece csb stall ≡ event_of k s x
unfolding event_of bit_event end_event
event_by_lem k s x d e f g =
    (λ i. event_by k s x (d i) (e i) (f i) (g i))
    ∙ (λ i. cond (takes_bit s x)
    (nested_tests (is_data s.phase) (ltb s.bits 7) (Whole s.read s.address (value_with s (data_line k s x))) i)
    (unless_both (csb_rises s x) (may_stall s) (cond (eqb s.bits 0) Ended (Aborted s.address s.bits (is_data s.phase))) i))

pub returns-then-data-self : goal.returns-then-data-self
returns-then-data-self c =
    let a = c.args in
    yes _ c.if-takes_bit.true (yes _ c.if-data-self.true refl)
    ∙ event_by_lem a.chip a.self a.sample c.takes_bit.ensures c.is_data-data.ensures refl refl

pub returns-then-takes_bit : goal.returns-then-takes_bit
returns-then-takes_bit c =
    let a = c.args in
    let l = c.data_line-bit.ensures ∙ ap (λ (u : InUse). cond (a.self.read && u.sdo_active) (sdo_of a.sample) (sdio_of a.sample))
    c.counting.ensures in
    let v = c.shift_in-value.ensures ∙ ap (value_with a.self) l in
    yes _ c.if-takes_bit.true
    (no _ c.if-data-self.false (ap (Whole a.self.read a.self.address) v))
    ∙ event_by_lem a.chip a.self a.sample c.takes_bit.ensures c.is_data-data.ensures refl refl

pub returns-then-rises-may_stall : goal.returns-then-rises-may_stall
returns-then-rises-may_stall c =
    let a = c.args in
    no _ c.if-takes_bit.false (yes _ c.if-rises-may_stall.true refl)
    ∙ event_by_lem a.chip a.self a.sample c.takes_bit.ensures c.is_data-data.ensures c.bit_at.ensures
    c.may_stall.ensures

pub returns-then-self-eq0 : goal.returns-then-self-eq0
returns-then-self-eq0 c =
    let a = c.args in
    no _ c.if-takes_bit.false (no _ c.if-rises-may_stall.false (yes _ (eq-eqb _ _ c.if-self-eq0.true) refl))
    ∙ event_by_lem a.chip a.self a.sample c.takes_bit.ensures c.is_data-data.ensures c.bit_at.ensures c.may_stall.ensures

pub returns : goal.returns
returns c =
    let a = c.args in
    no _ c.if-takes_bit.false (no _ c.if-rises-may_stall.false (no _ (ne_eqb _ _ c.if-self-eq0.false) refl))
    ∙ event_by_lem a.chip a.self a.sample c.takes_bit.ensures c.is_data-data.ensures c.bit_at.ensures c.may_stall.ensures
