-- `levels` meets its contract: one mask.
use Rattle.bus_words.proofs.Lanes.{levels_mask}
use Rattle.bus_words.proofs.levels.Goals as goal

pub returns : goal.returns
returns c = levels_mask 8 c.args.word
