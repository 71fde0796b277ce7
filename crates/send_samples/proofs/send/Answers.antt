-- `send` meets its contract: the check decides, and the samples are put only where nothing is refused.
use Rattle.std.proofs.lemmas.Result.{err_from_is_err_and}
use Rattle.base_chip.specs.declared.Chip.TheVariants.{Newer}
use Rattle.send_order.specs.Order.{order}
use Rattle.send_samples.proofs.Answer.{done, refused}
use Rattle.send_samples.proofs.send.Goals as goal

pub returns-in_err-check : goal.returns-in_err-check
returns-in_err-check c =
    let o = order c.args.direction c.args.settings c.args.start c.args.count c.args.«data».now in
    let p = err_from_is_err_and c.from_residual.result c.from_residual.ensures.1 in
    rw (p.1, p.2) (refused Newer o _ _ c.in_err-check.ensures)

pub returns : goal.returns
returns c =
    let o = order c.args.direction c.args.settings c.args.start c.args.count c.args.«data».now in
    done Newer o _ _ _ c.in_ok-check.ensures c.put_samples.ensures
