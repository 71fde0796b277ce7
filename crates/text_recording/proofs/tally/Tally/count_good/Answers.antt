-- `count_good` meets its contract: no more samples are good than there are.
use native.Mathlib.Omega.{arith}
use Rattle.text_recording.proofs.Looking.{good_within}
use Rattle.text_recording.proofs.tally.Tally.count_good.Goals as goal

pub overflow_add-self : goal.overflow_add-self
overflow_add-self c = omega (arith, good_within c.args.piece.now c.good_before.ensures, c.requires)
