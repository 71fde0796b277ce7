-- `merge` meets its contract: the law of the masked merge at eight bits.
use Rattle.std.proofs.Common.{rules}
use Rattle.base_bits.proofs.Laws.{mask_merge}
use Rattle.base_bits.proofs.merge.Goals as goal

pub returns : goal.returns
returns c = mask_merge 8 c.args.old c.args.new c.args.mask (search rules) (search rules) (search rules)
