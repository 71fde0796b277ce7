-- `highs` meets its contract: one mask.
use Rattle.bus_words.proofs.Lanes.{highs_mask}
use Rattle.bus_words.proofs.highs.Goals as goal

pub returns : goal.returns
returns c = highs_mask 8 c.args.word
