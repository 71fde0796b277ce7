-- `count_ones` meets its contract: the sum over the words is of the ones of each.
use mathlib.Core.Path.{◌≡◌, ◌∙◌}
use lib.Count.{ones}
use Rattle.std.specs.List.{sum_by}
use Rattle.std.proofs.Common.{rules}
use Rattle.std.proofs.iter.runs.Made.{chains}
use Rattle.reg_touched.proofs.Words.{ones_trues}
use Rattle.reg_touched.proofs.count_ones.Goals as goal

pub returns : goal.returns
returns c =
    let total : c.sum.result ≡ sum_by ones c.args.words.now = search (rules, chains) in
    total ∙ ones_trues c.args.words.now (λ i. (c.type_inv.words i).fits)
