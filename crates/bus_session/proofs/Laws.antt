-- A sound session is fit, and each sample keeps it sound; what is known of a session at rest, and of a byte of data.
use Prim.Native.Nat.{ℕ, ◌+◌, ◌%◌, ◌^◌, ◌<◌}
use mathlib.Core.Bool.{Bool, true, false≢true}
use mathlib.Core.Path.{◌≡◌, refl}
use native.Mathlib.Omega.{arith}
use native.Mathlib.Nat.{lt_of_lt_of_le}
use lib.Dec.{lit<, leb}
use lib.Pow.{pow_mono}
use Rattle.base_bits.proofs.Cases.{each, and_left}
use Rattle.base_bits.proofs.Laws.{shifted_lt}
use Rattle.base_chip.specs.declared.Chip.{Chip}
use Rattle.base_chip.specs.declared.Chip.TheVariants.{Newer, Older}
use Rattle.bus_settings.specs.declared.Settings.{Settings}
use Rattle.bus_settings.specs.declared.InUse.{InUse}
use Rattle.bus_session.specs.declared.Phase.{Phase}
use Rattle.bus_session.specs.declared.Phase.TheVariants.{Rest, Instruction, Data}
use Rattle.bus_session.specs.declared.Port.{Port}
use Rattle.bus_session.specs.declared.Session.{Session}
use Rattle.bus_session.specs.State.{is_data, sound_port, sound_session, width_of, PortBounds}
use Rattle.bus_session.specs.Step.{value_with, entered, step_of}
use Rattle.bus_session.proofs.Form.{Form, rests, instructs, has_data, stalls, passes, form_sound, sound_form, form_step}

fit_form : {c : Chip} {s : Port} → Form c s → PortBounds s
fit_form (rests k t) = record { unfinished = lit< tt; small = lit< tt; near = lit< tt }
fit_form (instructs k n v t u h g) = record { unfinished = h; small = g; near = lit< tt }
fit_form (has_data k n v a r l t u h g f d) = record { unfinished = h; small = g; near = f }
fit_form (stalls k a r l t u f e d) = record { unfinished = lit< tt; small = lit< tt; near = f }
fit_form (passes k t e) = record { unfinished = lit< tt; small = lit< tt; near = lit< tt }

pub fit_sound : (c : Chip) (s : Port) → sound_port c s ≡ true → PortBounds s
fit_sound c s h = fit_form (sound_form c s h)

pub sound_step : (c : Chip) (s : Port) (x : ℕ) → sound_port c s ≡ true → sound_port c (step_of c s x) ≡ true
sound_step c s x h = form_sound (form_step (sound_form c s h) x)

data_bits : (p : Phase) (n : ℕ) → is_data p ≡ true → n < width_of p → n < 8
data_bits Rest n e h = absurd (false≢true e)
data_bits Instruction n e h = absurd (false≢true e)
data_bits Data n e h = h

-- with one more bit, data is still the value of a byte
pub byte_lt : (s : Port) (b : Bool) → PortBounds s → is_data s.phase ≡ true → value_with s b < 256
byte_lt s b f e =
    let h = data_bits s.phase s.bits e f.unfinished in
    lt_of_lt_of_le (shifted_lt s.in_use.lsb_first s.value s.bits b f.small)
    (pow_mono {i = s.bits + 1} {j = 8} (omega arith))

-- no piece has more than 16 bits
pub few_bits : (p : Phase) (n : ℕ) → n < width_of p → n < 16
few_bits Rest n h = omega arith
few_bits Instruction n h = h
few_bits Data n h = omega arith

-- a fit session has room for one more bit
pub room_for_bit : (s : Port) → PortBounds s → (s.bits < 16) × (s.value < 2 ^ s.bits)
room_for_bit s f = (few_bits s.phase s.bits f.unfinished, f.small)

-- a whole instruction changes no setting
pub entered_settings : (c : Chip) (v : ℕ) (t : Settings) (u : InUse) → (entered c v t u).settings ≡ t
unfolding entered
entered_settings Newer v t u = refl
entered_settings (Older part top) v t u = each (λ (s : Port). s.settings ≡ t) (leb (v % 0x2000) top) (λ e. refl) (λ e. refl)

-- a sound session has a sound port
pub port_sound : (c : Chip) (s : Session) → sound_session c s ≡ true → sound_port c s.port ≡ true
unfolding sound_session
port_sound c s h = and_left (sound_port c s.port) _ h
