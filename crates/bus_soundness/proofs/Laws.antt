-- The opened session is sound on every chip.
use mathlib.Core.Bool.{true, false}
use mathlib.Core.Path.{◌≡◌, refl}
use Rattle.base_chip.specs.declared.Chip.{Chip}
use Rattle.bus_session.specs.State.{sound_session}
use Rattle.bus_session.proofs.Form.{rests, form_sound}
use Rattle.bus_soundness.specs.Opened.{opened_session}

pub opened_sound : (c : Chip) → sound_session c opened_session ≡ true
unfolding sound_session
opened_sound c = rw (form_sound {c = c} (rests false opened_session.port.settings)) refl
