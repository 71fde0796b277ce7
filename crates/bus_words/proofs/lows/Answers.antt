-- `lows` meets its contract: each lane without a bit has eight zeros.
use mathlib.Core.Path.{ap, ◌∙◌}
use native.Mathlib.Omega.{arith}
use lib.Count.{count_trailing_zeros}
use Rattle.bus_words.proofs.Lanes.{highs_mask, lows_zeros}
use Rattle.bus_words.proofs.lows.Goals as goal

pub returns : goal.returns
returns c =
    let w = c.args.word in
    omega (arith, ap (count_trailing_zeros 64) (highs_mask 8 w) ∙ lows_zeros 8 w)
