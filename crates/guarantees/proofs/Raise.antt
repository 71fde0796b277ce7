-- Raising the select: it ends the frame of an armed session, moves the buffered registers there, and leaves no session armed.
use Prim.Native.Nat.{ℕ}
use mathlib.Core.Path.{◌≡◌, refl, sym, ap, ◌∙◌}
use mathlib.Core.Bool.{Bool, true, false, not, ◌||◌, true≢false, false≢true, and-false}
use mathlib.Core.List.{List, [], ◌∷◌}
use lib.Dec.{eqb}
use borrow.Author.Tests.{eqb-true}
use Rattle.base_bits.proofs.Cases.{each, and_left, and_right}
use Rattle.base_chip.specs.declared.Chip.{Chip}
use Rattle.base_chip.specs.declared.Chip.TheVariants.{Newer, Older}
use Rattle.base_chip.specs.Chip.{is_newer}
use Rattle.bus_settings.specs.declared.Settings.{Settings}
use Rattle.bus_session.specs.declared.Phase.TheVariants.{Rest}
use Rattle.bus_session.specs.declared.Port.{Port}
use Rattle.bus_session.specs.declared.Session.{Session}
use Rattle.bus_session.specs.declared.Event.{Event}
use Rattle.bus_session.specs.declared.Event.TheVariants.{Nothing}
use Rattle.bus_session.specs.State.{is_counted, may_arm, sound_port, sound_session}
use Rattle.bus_session.specs.Step.{csb_of, takes_bit, frame_ends}
use Rattle.bus_session.specs.Event.{end_event, event_of}
use Rattle.bus_session.proofs.Form.{Form, rests, instructs, has_data, stalls, passes, sound_form}
use Rattle.reg_banks.specs.Banks.{Banks}
use Rattle.reg_write.specs.Rise.{rise_banks}
use Rattle.read_records.specs.Records.{records_in}
use Rattle.read_records.specs.BanksAfter.{banks_after, armed_after, touched_after}
use Rattle.read_records.proofs.Arming.{end_event_lem, end_disarms, sound_kept}
use Rattle.read_run.specs.Reading.{ReaderState, reader_state_after, run_of}
use Rattle.guarantees.proofs.Events.{settings_on}

-- a sound session at rest is not armed
pub rest_disarmed : (c : Chip) (s : Session) → sound_session c s ≡ true → s.port.phase ≡ Rest → s.armed ≡ false
unfolding sound_session
rest_disarmed c s h r = by s.armed (and_right (sound_port c s.port) _ h)
  where
    by : (armed : Bool) → (not armed || may_arm c s.port) ≡ true → armed ≡ false
    by true g = absurd (false≢true (sym (and-false (is_newer c)) ∙ (rw r at g)))
    by false g = refl

module _ (raise : ℕ) (raised : csb_of raise ≡ true) where
  -- where a session may be armed, a raise ends a frame
  armed_ends : (c : Chip) {p : Port} → Form c p → may_arm c p ≡ true → frame_ends p raise ≡ true
  armed_ends (Older part top) f k = absurd (false≢true k)
  armed_ends Newer (rests s t) k = absurd (false≢true k)
  armed_ends Newer (instructs s n v t u h g) k = rw raised refl
  armed_ends Newer (has_data s n v a r l t u h g f q) k = rw (raised, eqb-true l 0 q) refl
  armed_ends Newer (stalls s a r l t u f e q) k = absurd (false≢true (ap (λ (j : ℕ). is_counted j) (sym (eqb-true l 0 q)) ∙ e))
  armed_ends Newer (passes s t e) k = absurd (true≢false e)

  pub raise_takes_nothing : (p : Port) → takes_bit p raise ≡ false
  raise_takes_nothing p = rw (raised, and-false)

  -- where it ends none, nothing happens
  raise_nothing : (c : Chip) (p : Port) → frame_ends p raise ≡ false → event_of c p raise ≡ Nothing
  unfolding event_of
  raise_nothing c p n = rw (raise_takes_nothing p, n) refl

  -- what holds of nothing and of the end of a frame holds of what a raise completes
  raise_event : (c : Chip) (p : Port) (P : Event → Type 0) → P Nothing → P (end_event p) → P (event_of c p raise)
  raise_event c p P none end = by (frame_ends p raise) refl
    where
      by : (n : Bool) → frame_ends p raise ≡ n → P (event_of c p raise)
      by true n = rw (end_event_lem c p raise n) end
      by false n = rw (raise_nothing c p n) none

  pub raise_no_record : (c : Chip) (p : Port) → p.bits ≡ 0 → records_in (event_of c p raise) ≡ 0
  unfolding end_event
  raise_no_record c p e = raise_event c p (λ (v : Event). records_in v ≡ 0) refl (rw e refl)

  pub raise_settings : (c : Chip) (p : Port) (t : Settings) → settings_on c t (event_of c p raise) ≡ t
  unfolding end_event
  raise_settings c p t =
      raise_event c p (λ (v : Event). settings_on c t v ≡ t) refl (each (λ (v : Event). settings_on c t v ≡ t) (eqb p.bits 0) (λ e. refl) (λ e. refl))

  -- and the session is not armed
  disarmed : (c : Chip) (s : Session) → sound_session c s ≡ true → frame_ends s.port raise ≡ false → s.armed ≡ false
  unfolding sound_session
  disarmed c s h n = by s.armed (and_right (sound_port c s.port) _ h)
    where
      by : (k : Bool) → (not k || may_arm c s.port) ≡ true → k ≡ false
      by true g = absurd (true≢false (sym (armed_ends c (sound_form c s.port (and_left (sound_port c s.port) _ h)) g) ∙ n))
      by false g = refl

  end_moves : (c : Chip) (m : List ℕ) (armed : Bool) (b : Banks) (p : Port) → banks_after c m armed b (end_event p) ≡ rise_banks c m armed b
  unfolding banks_after end_event
  end_moves c m armed b p = each (λ (e : Event). banks_after c m armed b e ≡ rise_banks c m armed b) (eqb p.bits 0) (λ e. refl) (λ e. refl)

  -- a raise moves the bytes of an armed session, and disarms it
  raise_rule : (c : Chip) (m : List ℕ) (s : Session) (b : Banks) → sound_session c s ≡ true
      → (banks_after c m s.armed b (event_of c s.port raise) ≡ rise_banks c m s.armed b)
      × (armed_after c m s.armed b (event_of c s.port raise) ≡ false)
  unfolding banks_after armed_after rise_banks
  raise_rule c m s b h = by (frame_ends s.port raise) refl
    where
      by : (n : Bool) → frame_ends s.port raise ≡ n
          → (banks_after c m s.armed b (event_of c s.port raise) ≡ rise_banks c m s.armed b)
          × (armed_after c m s.armed b (event_of c s.port raise) ≡ false)
      by true n = rw (end_event_lem c s.port raise n) (end_moves c m s.armed b s.port, end_disarms c m s.armed b s.port)
      by false n = rw (raise_nothing c s.port n, disarmed c s h n) (refl, refl)

  pub raise_touches_none : (c : Chip) (m : List ℕ) (w : ReaderState) → (reader_state_after c m w raise).touched ≡ w.touched
  unfolding touched_after end_event
  raise_touches_none c m w = raise_event c w.session.port Same refl (each Same (eqb w.session.port.bits 0) (λ e. refl) (λ e. refl))
    where
      Same : Event → Type 0
      Same e = touched_after c m w.touched w.banks e ≡ w.touched

  module _ (c : Chip) (m : List ℕ) (w : ReaderState) (sound : sound_session c w.session ≡ true) where
    pub raise_banks : (reader_state_after c m w raise).banks ≡ rise_banks c m w.session.armed w.banks
    raise_banks = (raise_rule c m w.session w.banks sound).0

    pub raise_disarms : (reader_state_after c m w raise).session.armed ≡ false
    raise_disarms = (raise_rule c m w.session w.banks sound).1

-- a second raise changes no bank
pub raise_twice : (c : Chip) (m : List ℕ) (w : ReaderState) (first raise : ℕ) → sound_session c w.session ≡ true → csb_of first ≡ true → csb_of raise ≡ true
    → (run_of c m w (first ∷ raise ∷ [])).banks ≡ rise_banks c m w.session.armed w.banks
unfolding run_of rise_banks
raise_twice c m w first raise h f r =
    let v = reader_state_after c m w first in
    raise_banks raise r c m v (sound_kept c m w.session w.banks first h)
    ∙ ap (λ (k : Bool). rise_banks c m k v.banks) (raise_disarms first f c m w h)
    ∙ raise_banks first f c m w h
