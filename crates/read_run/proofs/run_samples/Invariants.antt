use Prim.Native.Nat.{◌-◌}
use mathlib.Core.Path.{◌≡◌}
use lib.ListN.{length}
use Rattle.read_run.specs.Reading.{reader_state_of}
use Rattle.read_run.specs.ScanPort.{scanned_port}
use Rattle.read_run.proofs.Loop.{RunTo}
use Rattle.read_run.proofs.run_samples.Given as goal

abbrev pub invariant-loop-i : goal.invariant-loop-i
invariant-loop-i l =
    ((length l.active ≡ length l.initial.active) × (length l.buffer ≡ length l.initial.buffer) × (length l.words ≡ length l.initial.words) × (length l.records ≡ length l.initial.records))
    × RunTo l.chip l.storing l.map l.samples (reader_state_of (scanned_port l.initial.s) l.initial.told.armed l.initial.active l.initial.buffer l.initial.words) l.initial.records l.active l.buffer l.words l.records l.s l.told l.i

abbrev pub decreases-loop-i : goal.decreases-loop-i
decreases-loop-i l = length l.samples - l.i
