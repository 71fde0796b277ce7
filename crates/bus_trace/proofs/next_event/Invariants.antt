use Prim.Native.Nat.{◌-◌}
use mathlib.Core.Path.{◌≡◌}
use lib.ListN.{length}
use Rattle.bus_session.specs.declared.Event.TheVariants.{Nothing}
use Rattle.bus_trace.proofs.Scanning.{Scanned}
use Rattle.bus_trace.proofs.next_event.Given as goal

abbrev pub invariant-loop-at : goal.invariant-loop-at
invariant-loop-at l = (l.event ≡ Nothing) × Scanned l.chip l.samples l.initial.s l.from l.s l.at

abbrev pub decreases-loop-at : goal.decreases-loop-at
decreases-loop-at l = length l.samples - l.at
