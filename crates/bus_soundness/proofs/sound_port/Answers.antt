-- `sound_port` meets its contract: by the phase, the tests of its list, joined.
use mathlib.Core.Bool.{Bool, true, false, not, beq, ◌&&◌, and_assoc, and-true}
use mathlib.Core.List.{List, [], ◌∷◌}
use mathlib.Core.Path.{◌≡◌, refl, ap, sym, ◌∙◌}
use Rattle.base_bits.specs.Tests.{every}
use Rattle.base_bits.proofs.Cases.{joined_every}
use Rattle.bus_settings.specs.declared.InUse.{InUse}
use Rattle.bus_settings.specs.Settings.{none_in_use}
use Rattle.bus_session.specs.declared.Phase.{Phase}
use Rattle.bus_session.specs.declared.Phase.TheVariants.{Instruction, Data}
use Rattle.bus_session.specs.State.{sound_tests, sound_port}
use Rattle.bus_soundness.proofs.sound_port.Goals as goal

-- compared with a flag that is clear
beq_false : (b : Bool) → beq b false ≡ not b
beq_false true = refl
beq_false false = refl

-- none in use is each of the four clear
in_use_zero : (u v : InUse) → v ≡ none_in_use
    → (beq u.lsb_first v.lsb_first && (beq u.ascending v.ascending && (beq u.sdo_active v.sdo_active && beq u.single_instruction v.single_instruction)))
    ≡ every (not u.lsb_first ∷ not u.ascending ∷ not u.sdo_active ∷ not u.single_instruction ∷ [])
unfolding every
in_use_zero u v h = rw h (simp (beq_false, and-true))

-- the tests of rest, the last of which joins those of the settings in use
rest_tests : (a b v d r l : Bool) (us : List Bool) {e : Bool} → e ≡ every us
    → ((((((a && b) && v) && d) && r) && l) && e) ≡ every (a ∷ b ∷ v ∷ d ∷ r ∷ l ∷ us)
unfolding every
rest_tests a b v d r l us h = rw h (simp and_assoc)

pub returns-in-Rest : goal.returns-in-Rest
unfolding sound_port
returns-in-Rest c =
    let a = c.args in
    rw c.is_newer.ensures
    (rest_tests _ _ _ _ _ _ _ (c.eq.ensures ∙ in_use_zero a.port.in_use _ c.none_in_use.ensures)
    ∙ ap (λ (p : Phase). every (sound_tests a.chip p a.port)) (sym c.in-Rest.is))

pub returns-in-Instruction : goal.returns-in-Instruction
unfolding sound_port
returns-in-Instruction c =
    let a = c.args in
    rw c.value_fits.ensures
    (joined_every true (sound_tests a.chip Instruction a.port)
    ∙ ap (λ (p : Phase). every (sound_tests a.chip p a.port)) (sym c.in-Instruction.is))

pub returns-in-Data : goal.returns-in-Data
unfolding sound_port
returns-in-Data c =
    let a = c.args in
    rw (c.length_good.ensures, c.value_fits-in-Data.ensures, c.may_stall.ensures)
    (joined_every true (sound_tests a.chip Data a.port) ∙ ap (λ (p : Phase). every (sound_tests a.chip p a.port)) (sym c.in-Data.is))
