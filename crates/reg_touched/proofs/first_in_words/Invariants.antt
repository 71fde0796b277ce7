use Prim.Native.Nat.{◌+◌, ◌*◌}
use mathlib.Core.Path.{◌≡◌}
use lib.ListN.{drop}
use Rattle.reg_touched.specs.Touched.{touched_bits, first_true}
use Rattle.reg_touched.proofs.first_in_words.Given as goal

abbrev pub invariant-loop-at : goal.invariant-loop-at
invariant-loop-at l =
    64 * l.at + first_true (touched_bits (drop l.at l.words)) ≡ 64 * l.from + first_true (touched_bits (drop l.from l.words))
