-- The port as the scan takes it: its phase is told by how many bits come before the last of a piece, and the line that its bits come from
-- stands beside it. What a stop of the scan makes of it, field by field.
use Rattle.std.specs.Prelude.{ℕ, ◌≡◌, Bool, cond, ◌&&◌, eqb}
use Rattle.base_chip.specs.declared.Chip.{Chip}
use Rattle.bus_settings.specs.Settings.{in_use_of}
use Rattle.bus_session.specs.declared.Phase.{Phase}
use Rattle.bus_session.specs.declared.Phase.TheVariants.{Rest, Instruction, Data}
use Rattle.bus_session.specs.declared.Port.{Port}
use Rattle.bus_session.specs.State.{at_levels, with_phase, with_settings, idle}
use Rattle.bus_trace.specs.declared.scan.Progress.{Progress}
use Rattle.bus_trace.specs.Progress.{with_progress, last_of, source_line}
use Rattle.bus_trace.specs.Scan.{progress}
use Rattle.read_run.specs.declared.scanning.ScanPort.{ScanPort}

abbrev pub phase_of_last : ℕ → Phase
phase_of_last last = cond (eqb last 15) Instruction (cond (eqb last 7) Data Rest)

-- the port that it is
abbrev pub scanned_port : ScanPort → Port
scanned_port s = with_phase s.port (phase_of_last s.last)

-- `last` and `line` are those of that port
pub record Tracks (c : Chip) (s : ScanPort) : Type 0 where
  pub sized : s.last ≡ last_of (phase_of_last s.last)
  pub line_is : s.line ≡ source_line c (scanned_port s)

-- a port that is handed in
abbrev pub scan_port : Bool → Port → ScanPort
scan_port newer t = record { port = t; last = last_of t.phase; line = cond ((t.read && t.in_use.sdo_active) && newer) 3 2 }

-- where a scan begins
abbrev pub progress_at : Port → ℕ → Progress
progress_at t i = progress (cond t.sclk 2 0) t.bits t.value i

-- where it has come to
abbrev pub scanned_to : ScanPort → Progress → ScanPort
scanned_to s p = record { port = with_progress s.port p; last = s.last; line = s.line }

-- with other levels
abbrev pub scan_levels : ScanPort → Bool → Bool → ScanPort
scan_levels s csb sclk = record { port = at_levels s.port csb sclk; last = s.last; line = s.line }

-- an instruction starts
abbrev pub scan_start : ScanPort → ScanPort
scan_start s = record { port = with_settings s.port s.port.settings (in_use_of s.port.settings); last = 15; line = s.line }

-- the zeros of rest
abbrev pub scan_rest : ScanPort → ScanPort
scan_rest s = record { port = with_phase (idle s.port.csb s.port.sclk s.port.settings) s.port.phase; last = 0; line = 2 }
