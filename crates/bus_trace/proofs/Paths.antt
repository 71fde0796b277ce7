-- Samples without an event, one after the other: what is known before them holds after them.
use mathlib.Core.Path.{◌≡◌, refl, ap, ◌∙◌}
use mathlib.Core.Bool.{Bool, true, false, cond, true≢false}
use mathlib.Core.List.{List}
use Prim.Native.Nat.{ℕ}
use lib.Dec.{ltb}
use Rattle.base_bits.proofs.Cases.{each}
use Rattle.base_chip.specs.declared.Chip.{Chip}
use Rattle.bus_session.specs.declared.Phase.{Phase}
use Rattle.bus_session.specs.declared.Phase.TheVariants.{Rest, Instruction, Data}
use Rattle.bus_session.specs.declared.Port.{Port}
use Rattle.bus_session.specs.declared.Event.TheVariants.{Nothing, Whole}
use Rattle.bus_session.specs.Step.{sdio_of, frame_starts, frame_ends, takes_bit, value_with, data_line, with_instruction_bit, with_data_bit, with_bit, step_of}
use Rattle.bus_session.specs.State.{is_data}
use Rattle.bus_session.specs.Event.{bit_event, event_of}
use Rattle.bus_session.proofs.Laws.{entered_settings}
use Rattle.bus_trace.specs.Path.{Quiet, still, more, happens}

pub paths_joined : {c : Chip} {xs : List ℕ} {s : Port} {i : ℕ} {t : Port} {j : ℕ} {u : Port} {k : ℕ} → Quiet c xs s i t j → Quiet c xs t j u k → Quiet c xs s i u k
paths_joined p still = p
paths_joined p (more q h e) = more (paths_joined p q) h e

module _ (c : Chip) where
  -- a byte of data that is not whole
  data_settings : (s : Port) (x : ℕ) (go : Bool) → ltb s.bits 7 ≡ go
      → cond go Nothing (Whole s.read s.address (value_with s (data_line c s x))) ≡ Nothing → (with_data_bit c s (data_line c s x)).settings ≡ s.settings
  unfolding with_data_bit
  data_settings s x true h e = rw h
  data_settings s x false h e = absurd (true≢false (ap happens e))

  bit_settings : (p : Phase) (s : Port) (x : ℕ)
      → cond (is_data p) (cond (ltb s.bits 7) Nothing (Whole s.read s.address (value_with s (data_line c s x)))) Nothing ≡ Nothing
      → (with_bit c p s x).settings ≡ s.settings
  unfolding with_instruction_bit
  bit_settings Rest s x e = refl
  bit_settings Instruction s x e =
      each (λ (t : Port). t.settings ≡ s.settings) (ltb s.bits 15) (λ h. refl)
      (λ h. entered_settings c (value_with s (sdio_of x)) s.settings s.in_use)
  bit_settings Data s x e = data_settings s x (ltb s.bits 7) refl e

  -- without an event no setting changes
  step_settings : (s : Port) (x : ℕ) → event_of c s x ≡ Nothing → (step_of c s x).settings ≡ s.settings
  unfolding step_of event_of bit_event
  step_settings s x e =
      each (λ (t : Port). t.settings ≡ s.settings) (frame_starts s x) (λ f. refl)
      (λ f. each (λ (t : Port). t.settings ≡ s.settings) (takes_bit s x) (λ t. bit_settings s.phase s x (rw t at e))
      (λ t. each (λ (t : Port). t.settings ≡ s.settings) (frame_ends s x) (λ r. refl) (λ r. refl)))

pub settings_quiet : {c : Chip} {xs : List ℕ} {s : Port} {i : ℕ} {t : Port} {j : ℕ} → Quiet c xs s i t j → t.settings ≡ s.settings
settings_quiet still = refl
settings_quiet (more q h e) = step_settings _ _ _ e ∙ settings_quiet q
