-- `count` meets its contract: n is the word after the version byte.
use Rattle.std.proofs.Common.{rules}
use Rattle.map_format.specs.Format.{count_of}
use Rattle.map_format.proofs.count.Goals as goal

pub returns : goal.returns
unfolding count_of
returns c = search rules
