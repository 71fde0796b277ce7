-- `level_at` meets its contract: the sample before it stands in its place when all have moved up by one.
use Rattle.bus_words.proofs.Lanes.{level_mask}
use Rattle.bus_words.proofs.level_at.Goals as goal

pub returns : goal.returns
returns c = level_mask c.args.lane c.args.level c.args.word c.requires.0 c.requires.1
