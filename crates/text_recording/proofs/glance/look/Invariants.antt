-- What is seen so far, with the samples that are left, comes to the whole.
use mathlib.Core.Path.{◌≡◌}
use lib.ListN.{drop}
use Rattle.text_recording.specs.Glance.{seen_of}
use Rattle.text_recording.proofs.glance.look.Given as goal

abbrev pub invariant-loop-x : goal.invariant-loop-x
invariant-loop-x l = seen_of l.seen (drop l.x-index l.samples) ≡ seen_of l.initial.seen l.samples
