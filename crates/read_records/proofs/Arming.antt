-- A sound session is armed in a frame of a newer chip alone, and each sample keeps that.
use mathlib.Core.Path.{◌≡◌, refl, sym, ap, ◌∙◌}
use mathlib.Core.Bool.{Bool, true, false, cond, not, ◌||◌, true≢false, false≢true, or-true}
use mathlib.Core.List.{List}
use Prim.Native.Nat.{ℕ}
use lib.Dec.{eqb, ltb}
use borrow.Author.Tests.{eqb-true}
use Rattle.base_bits.proofs.Cases.{each, and_left, and_right}
use Rattle.base_chip.specs.declared.Chip.{Chip}
use Rattle.base_chip.specs.declared.Chip.TheVariants.{Newer, Older}
use Rattle.base_chip.specs.declared.Part.{Part}
use Rattle.bus_settings.specs.declared.Settings.{Settings}
use Rattle.bus_session.specs.declared.Port.{Port}
use Rattle.bus_session.specs.declared.Session.{Session}
use Rattle.bus_session.specs.declared.Event.{Event}
use Rattle.bus_session.specs.declared.Event.TheVariants.{Nothing, Whole, Aborted, Ended}
use Rattle.bus_session.specs.State.{is_rest, may_arm, is_counted, sound_port, sound_session}
use Rattle.bus_session.specs.Step.{csb_of, takes_bit, frame_ends, with_instruction_bit, with_data_bit, after_byte, in_use_on, entered, step_of}
use Rattle.bus_session.specs.Event.{bit_event, end_event, event_of}
use Rattle.bus_session.proofs.Form.{Form, rests, instructs, has_data, stalls, passes, sound_form}
use Rattle.bus_session.proofs.Laws.{sound_step}
use Rattle.reg_banks.specs.Banks.{Banks}
use Rattle.reg_write.specs.declared.Effect.{Effect}
use Rattle.reg_write.specs.declared.Effect.TheVariants.{Byte, Control, Transfer, Reset, Ignored}
use Rattle.reg_write.specs.declared.Effect.TheVariants as effect
use Rattle.reg_write.specs.Write.{effect_at}
use Rattle.reg_write.specs.Rise.{armed_by}
use Rattle.read_records.specs.BanksAfter.{armed_after}

-- armed only where it may be
abbrev ArmGood : Chip → Bool → Port → Type 0
ArmGood c armed p = (not armed || may_arm c p) ≡ true

-- an older chip is never armed
older_by : (part : Part) (top : ℕ) (m : List ℕ) (e : Effect) → armed_by (Older part top) m false e ≡ false
unfolding armed_by
older_by part top m effect.Nothing = refl
older_by part top m (Byte false a byte moved) = refl
older_by part top m (Byte true a byte moved) = refl
older_by part top m Control = refl
older_by part top m Transfer = refl
older_by part top m Reset = refl
older_by part top m Ignored = refl

older_never : (part : Part) (top : ℕ) (m : List ℕ) (b : Banks) (e : Event) → armed_after (Older part top) m false b e ≡ false
unfolding armed_after
older_never part top m b Nothing = refl
older_never part top m b (Whole read a v) =
    each (λ (k : Bool). k ≡ false) read (λ e. refl) (λ e. older_by part top m (effect_at (Older part top) m b a v))
older_never part top m b (Aborted a bits d) = refl
older_never part top m b Ended = refl

-- the end of a frame disarms
pub end_disarms : (c : Chip) (m : List ℕ) (armed : Bool) (b : Banks) (s : Port) → armed_after c m armed b (end_event s) ≡ false
unfolding armed_after end_event
end_disarms c m armed b s = each (λ (e : Event). armed_after c m armed b e ≡ false) (eqb s.bits 0) (λ e. refl) (λ e. refl)

-- a port that is in a frame of a newer chip
in_frame : (armed : Bool) (p : Port) → is_rest p.phase ≡ false → ArmGood Newer armed p
in_frame armed p h = rw h (or-true (not armed))

after_byte_frame : (s : Port) (t : Settings) → is_rest (after_byte Newer s t).phase ≡ false
after_byte_frame s t = each (λ (p : Port). is_rest p.phase ≡ false) (in_use_on Newer s).single_instruction (λ e. refl) (λ e. refl)

data_frame : (s : Port) (b : Bool) → is_rest (with_data_bit Newer s b).phase ≡ false
unfolding with_data_bit
data_frame s b = each (λ (p : Port). is_rest p.phase ≡ false) (ltb s.bits 7) (λ e. refl) (λ e. after_byte_frame s _)

instruction_frame : (s : Port) (b : Bool) → is_rest (with_instruction_bit Newer s b).phase ≡ false
unfolding with_instruction_bit entered
instruction_frame s b = each (λ (p : Port). is_rest p.phase ≡ false) (ltb s.bits 15) (λ e. refl) (λ e. refl)

-- A sample that ends no frame leaves a newer chip in it.
frame_goes_on : {s : Port} → Form Newer s → (x : ℕ) → is_rest s.phase ≡ false → frame_ends s x ≡ false → is_rest (step_of Newer s x).phase ≡ false
unfolding step_of
frame_goes_on (rests k t) x r n = absurd (true≢false r)
frame_goes_on {s} (instructs k b v t u h g) x r n =
    each (λ (p : Port). is_rest p.phase ≡ false) (takes_bit s x) (λ e. instruction_frame s _) (λ e. rw n refl)
frame_goes_on {s} (has_data k b v a d l t u h g f q) x r n =
    each (λ (p : Port). is_rest p.phase ≡ false) (takes_bit s x) (λ e. data_frame s _) (λ e. rw n refl)
frame_goes_on (stalls k a d l t u f e q) x r n =
    absurd (false≢true (ap (λ (j : ℕ). is_counted j) (sym (eqb-true l 0 q)) ∙ e))
frame_goes_on (passes k t e) x r n = absurd (true≢false r)

-- at rest, and where CSB is high, no frame ends
pub end_event_lem : (c : Chip) (s : Port) (x : ℕ) → frame_ends s x ≡ true → event_of c s x ≡ end_event s
unfolding event_of
end_event_lem c s x n = by s.csb (csb_of x) refl refl
  where
    by : (a b : Bool) → s.csb ≡ a → csb_of x ≡ b → cond (takes_bit s x) (bit_event c s x) (cond (frame_ends s x) (end_event s) Nothing) ≡ end_event s
    by true b ea eb = absurd (false≢true (rw ea at n))
    by false true ea eb = rw (n, ea, eb) refl
    by false false ea eb = absurd (false≢true (rw (ea, eb) at n))

-- at rest a newer chip gives no event
rest_nothing : {s : Port} → Form Newer s → (x : ℕ) → is_rest s.phase ≡ true → event_of Newer s x ≡ Nothing
unfolding event_of
rest_nothing (rests k t) x r = refl
rest_nothing (instructs k b v t u h g) x r = absurd (false≢true r)
rest_nothing (has_data k b v a d l t u h g f q) x r = absurd (false≢true r)
rest_nothing (stalls k a d l t u f e q) x r = absurd (false≢true r)
rest_nothing (passes k t e) x r = absurd (true≢false e)

-- and is not armed
rest_disarmed : (armed : Bool) (p : Port) → is_rest p.phase ≡ true → ArmGood Newer armed p → armed ≡ false
rest_disarmed true p r g = absurd (false≢true (rw r at g))
rest_disarmed false p r g = refl

-- One sample keeps that.
pub arm_kept : (c : Chip) (m : List ℕ) (armed : Bool) (b : Banks) (s : Port) (x : ℕ) → sound_port c s ≡ true → ArmGood c armed s
    → ArmGood c (armed_after c m armed b (event_of c s x)) (step_of c s x)
unfolding armed_after
arm_kept (Older part top) m true b s x h g = absurd (false≢true g)
arm_kept (Older part top) m false b s x h g = rw (older_never part top m b (event_of (Older part top) s x)) refl
arm_kept Newer m armed b s x h g = by (frame_ends s x) (is_rest s.phase) refl refl
  where
    by : (n r : Bool) → frame_ends s x ≡ n → is_rest s.phase ≡ r → ArmGood Newer (armed_after Newer m armed b (event_of Newer s x)) (step_of Newer s x)
    by true r en er = rw (end_event_lem Newer s x en, end_disarms Newer m armed b s) refl
    by false false en er = in_frame (armed_after Newer m armed b (event_of Newer s x)) (step_of Newer s x) (frame_goes_on (sound_form Newer s h) x er en)
    by false true en er = rw (rest_nothing (sound_form Newer s h) x er, rest_disarmed armed s er g) refl

-- Each sample leads from a sound session to a sound one.
pub sound_kept : (c : Chip) (m : List ℕ) (s : Session) (b : Banks) (x : ℕ) → sound_session c s ≡ true
    → sound_session c (record { port = step_of c s.port x; armed = armed_after c m s.armed b (event_of c s.port x) }) ≡ true
unfolding sound_session
sound_kept c m s b x h =
    let p = and_left (sound_port c s.port) (not s.armed || may_arm c s.port) h in
    let k = and_right (sound_port c s.port) (not s.armed || may_arm c s.port) h in
    rw (sound_step c s.port x p, arm_kept c m s.armed b s.port x p k) refl
