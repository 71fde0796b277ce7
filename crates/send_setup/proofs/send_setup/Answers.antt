-- `send_setup` meets its contract: the check decides, and the samples are put only where nothing is refused.
use Rattle.std.proofs.lemmas.Result.{err_from_is_err_and}
use Rattle.send_setup.proofs.Answer.{done, refused}
use Rattle.send_setup.proofs.send_setup.Goals as goal

pub returns-in_err-check_setup : goal.returns-in_err-check_setup
returns-in_err-check_setup c =
    let p = err_from_is_err_and c.from_residual.result c.from_residual.ensures.1 in
    rw (p.1, p.2) (refused c.args.settings c.args.list.now _ _ c.in_err-check_setup.ensures)

pub returns : goal.returns
returns c = done c.args.settings c.args.list.now _ _ _ c.in_ok-check_setup.ensures c.send_all.ensures
