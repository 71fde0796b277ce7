-- Document 01, "Registers and session": the opened session.
use Rattle.std.specs.Prelude.{false}
use Rattle.bus_settings.specs.Settings.{all_clear}
use Rattle.bus_session.specs.declared.Session.{Session}
use Rattle.bus_session.specs.State.{resting}

-- Opening: at rest, last SCLK low, all settings clear.
abbrev pub opened_session : Session
opened_session = record { port = resting false all_clear; armed = false }
