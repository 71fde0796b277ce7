-- What happens in a list of samples follows from the port alone; what the samples leave follows from what happens.
use Prim.Native.Nat.{ℕ, ◌+◌}
use mathlib.Core.Path.{◌≡◌, refl, ap, ◌∙◌}
use mathlib.Core.Bool.{Bool, true, false, cond, not, ◌&&◌}
use mathlib.Core.List.{List, [], ◌∷◌, ◌++◌, foldl}
use native.Mathlib.Omega.{arith}
use lib.Dec.{eqb, ltb}
use Rattle.base_bits.proofs.Cases.{each}
use Rattle.base_chip.specs.declared.Chip.{Chip}
use Rattle.bus_settings.specs.declared.Settings.{Settings}
use Rattle.bus_settings.specs.Settings.{settings_after}
use Rattle.bus_session.specs.declared.Phase.{Phase}
use Rattle.bus_session.specs.declared.Phase.TheVariants.{Rest, Instruction, Data}
use Rattle.bus_session.specs.declared.Port.{Port}
use Rattle.bus_session.specs.declared.Event.{Event}
use Rattle.bus_session.specs.declared.Event.TheVariants.{Nothing, Whole, Aborted, Ended}
use Rattle.bus_session.specs.State.{resting, starting, with_levels, is_data, may_stall}
use Rattle.bus_session.specs.Step.{csb_of, sclk_of, data_line, value_with, in_use_on, run_ends, settings_on_byte, with_instruction_bit, with_data_bit, with_bit, step_of}
use Rattle.bus_session.specs.Event.{bit_event, end_event, event_of}
use Rattle.bus_session.proofs.Laws.{entered_settings}
use Rattle.reg_banks.specs.Banks.{Banks}
use Rattle.read_records.specs.Records.{record_of, records_in}
use Rattle.read_records.specs.BanksAfter.{banks_after, armed_after, touched_after}
use Rattle.read_run.specs.Reading.{ReaderState, reader_state_after, run_of, records_of, record_count}

-- an event is noted unless it is nothing
abbrev pub noted : Event → List Event → List Event
noted Nothing es = es
noted (Whole read a v) es = Whole read a v ∷ es
noted (Aborted a bits in_data) es = Aborted a bits in_data ∷ es
noted Ended es = Ended ∷ es

-- what happens in a list of samples, in order of time
unfoldable pub events_of : Chip → Port → List ℕ → List Event
events_of c s [] = []
events_of c s (x ∷ xs) = noted (event_of c s x) (events_of c (step_of c s x) xs)

-- ---- what changes by events alone

noted_fold :
    {A : Type 0} (f : A → Event → A) → ((a : A) → f a Nothing ≡ a)
    → (a : A) (e : Event) (es : List Event) → foldl f (f a e) es ≡ foldl f a (noted e es)
noted_fold f still a Nothing es = ap (λ b. foldl f b es) (still a)
noted_fold f still a (Whole read address v) es = refl
noted_fold f still a (Aborted address bits in_data) es = refl
noted_fold f still a Ended es = refl

-- a part of the world that each sample changes as its event says
run_fold :
    {A : Type 0} (c : Chip) (m : List ℕ) (f : A → Event → A) (part : ReaderState → A) → ((a : A) → f a Nothing ≡ a)
    → ((w : ReaderState) (x : ℕ) → part (reader_state_after c m w x) ≡ f (part w) (event_of c w.session.port x))
    → (w : ReaderState) (xs : List ℕ) → part (run_of c m w xs) ≡ foldl f (part w) (events_of c w.session.port xs)
unfolding run_of events_of
run_fold c m f part still moves w [] = refl
run_fold c m f part still moves w (x ∷ xs) =
    let more : List Event = events_of c (step_of c w.session.port x) xs in
    run_fold c m f part still moves (reader_state_after c m w x) xs
    ∙ ap (λ a. foldl f a more) (moves w x)
    ∙ noted_fold f still (part w) (event_of c w.session.port x) more

-- the banks, the words of touched registers, and whether the session is armed
pub record Held : Type 0 where
  pub armed : Bool
  pub banks : Banks
  pub touched : List ℕ

abbrev pub held_in : ReaderState → Held
held_in w = record { armed = w.session.armed; banks = w.banks; touched = w.touched }

abbrev pub held_on : Chip → List ℕ → Held → Event → Held
held_on c m h e = record {
  armed = armed_after c m h.armed h.banks e;
  banks = banks_after c m h.armed h.banks e;
  touched = touched_after c m h.touched h.banks e;
}

pub run_held : (c : Chip) (m : List ℕ) (w : ReaderState) (xs : List ℕ)
    → held_in (run_of c m w xs) ≡ foldl (held_on c m) (held_in w) (events_of c w.session.port xs)
unfolding banks_after armed_after touched_after
run_held c m w xs = run_fold c m (held_on c m) held_in (λ h. refl) (λ w x. refl) w xs

-- ---- the settings

abbrev pub settings_on : Chip → Settings → Event → Settings
settings_on c t Nothing = t
settings_on c t (Whole read a v) = cond read t (settings_after c t a v)
settings_on c t (Aborted a bits in_data) = t
settings_on c t Ended = t

-- two values that one test picks
both : {A B : Type 0} (P : A → B → Type 0) (t : Bool) {x y : A} {x' y' : B} → P x x' → P y y' → P (cond t x y) (cond t x' y')
both P true h g = h
both P false h g = g

module _ (c : Chip) (s : Port) (x : ℕ) where
  -- the settings of the next port are those that the event leaves
  abbrev Follows : Port → Event → Type 0
  Follows next e = next.settings ≡ settings_on c s.settings e

  -- one bit, by the phase
  settings_bit :
      (p : Phase)
      → Follows (with_bit c p s x)
      (cond (is_data p) (cond (ltb s.bits 7) Nothing (Whole s.read s.address (value_with s (data_line c s x)))) Nothing)
  unfolding with_instruction_bit with_data_bit
  settings_bit Rest = refl
  settings_bit Instruction =
      each (λ (next : Port). Follows next Nothing) (ltb s.bits 15) (λ e. refl) (λ e. entered_settings c _ s.settings s.in_use)
  settings_bit Data =
      let v : ℕ = value_with s (data_line c s x) in
      both Follows (ltb s.bits 7) refl
      (each (λ (next : Port). next.settings ≡ settings_on_byte c s v) (in_use_on c s).single_instruction (λ e. refl)
      (λ e. each (λ (next : Port). next.settings ≡ settings_on_byte c s v) (run_ends c s) (λ e. refl) (λ e. refl)))

  pub settings_step : Follows (step_of c s x) (event_of c s x)
  unfolding step_of event_of bit_event end_event
  settings_step = by_csb s.csb
    where
      by_csb :
          (csb : Bool)
          → Follows
          (cond ((csb && not (csb_of x)) && eqb s.left 0) (starting (sclk_of x) s.settings)
          (cond (not csb && not (csb_of x) && not s.sclk && sclk_of x) (with_bit c s.phase s x)
          (cond ((not csb && csb_of x) && not (may_stall s)) (resting (sclk_of x) s.settings) (with_levels s x))))
          (cond (not csb && not (csb_of x) && not s.sclk && sclk_of x) (bit_event c s x) (cond ((not csb && csb_of x) && not (may_stall s)) (end_event s) Nothing))
      by_csb true = each (λ (next : Port). Follows next Nothing) (not (csb_of x) && eqb s.left 0) (λ e. refl) (λ e. refl)
      by_csb false =
          both Follows (not (csb_of x) && not s.sclk && sclk_of x) (settings_bit s.phase)
          (both Follows (csb_of x && not (may_stall s)) ends refl)
        where
          ends : s.settings ≡ settings_on c s.settings (end_event s)
          ends = each (λ (e : Event). s.settings ≡ settings_on c s.settings e) (eqb s.bits 0) (λ e. refl) (λ e. refl)

pub run_settings :
    (c : Chip) (m : List ℕ) (w : ReaderState) (xs : List ℕ)
    → (run_of c m w xs).session.port.settings ≡ foldl (settings_on c) w.session.port.settings (events_of c w.session.port xs)
run_settings c m w xs =
    run_fold c m (settings_on c) (λ w. w.session.port.settings) (λ t. refl) (λ w x. settings_step c w.session.port x) w xs

-- ---- the records

-- the records of some events, by what is held and the settings before them
unfoldable pub records_by : Chip → List ℕ → Held → Settings → List Event → List ℕ
records_by c m h t [] = []
records_by c m h t (e ∷ es) = record_of c m h.banks t e ++ records_by c m (held_on c m h e) (settings_on c t e) es

noted_records :
    (c : Chip) (m : List ℕ) (h : Held) (t : Settings) (e : Event) (es : List Event)
    → record_of c m h.banks t e ++ records_by c m (held_on c m h e) (settings_on c t e) es ≡ records_by c m h t (noted e es)
unfolding records_by banks_after armed_after touched_after record_of
noted_records c m h t Nothing es = refl
noted_records c m h t (Whole read a v) es = refl
noted_records c m h t (Aborted a bits in_data) es = refl
noted_records c m h t Ended es = refl

pub run_records :
    (c : Chip) (m : List ℕ) (w : ReaderState) (xs : List ℕ)
    → records_of c m w xs ≡ records_by c m (held_in w) w.session.port.settings (events_of c w.session.port xs)
unfolding records_of events_of records_by
run_records c m w [] = refl
run_records c m w (x ∷ xs) =
    let e : Event = event_of c w.session.port x in
    let more : List Event = events_of c (step_of c w.session.port x) xs in
    ap (λ (l : List ℕ). record_of c m w.banks w.session.port.settings e ++ l)
    (run_records c m (reader_state_after c m w x) xs
    ∙ ap (λ (t : Settings). records_by c m (held_on c m (held_in w) e) t more) (settings_step c w.session.port x))
    ∙ noted_records c m (held_in w) w.session.port.settings e more

-- how many records some events give
unfoldable pub records_among : List Event → ℕ
records_among [] = 0
records_among (e ∷ es) = records_in e + records_among es

noted_count : (e : Event) (es : List Event) → records_in e + records_among es ≡ records_among (noted e es)
unfolding records_among
noted_count Nothing es = omega arith
noted_count (Whole read a v) es = refl
noted_count (Aborted a bits in_data) es = refl
noted_count Ended es = refl

pub run_count : (c : Chip) (s : Port) (xs : List ℕ) → record_count c s xs ≡ records_among (events_of c s xs)
unfolding record_count events_of records_among
run_count c s [] = refl
run_count c s (x ∷ xs) =
    ap (λ (n : ℕ). records_in (event_of c s x) + n) (run_count c (step_of c s x) xs) ∙ noted_count (event_of c s x) (events_of c (step_of c s x) xs)
