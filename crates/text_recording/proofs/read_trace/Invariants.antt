use Prim.Native.Nat.{◌-◌}
use Rattle.text_recording.proofs.Laws.{Reading}
use Rattle.text_recording.proofs.read_trace.Given as goal

abbrev pub invariant-loop-tally : goal.invariant-loop-tally
invariant-loop-tally g l =
    Reading l.initial.active l.initial.buffer l.initial.words l.active l.buffer l.words l.samples l.found l.text l.tally

abbrev pub decreases-loop-tally : goal.decreases-loop-tally
decreases-loop-tally g l = 0xFFFF_FFFF_FFFF_FFFF - l.tally.samples
