-- `next` meets its contract: the words are searched where the call is not refused.
use mathlib.Core.Path.{sym}
use Rattle.std.proofs.lemmas.Result.{err_from_is_err_and}
use Rattle.reg_touched.proofs.Answer.{few, found, not_found}
use Rattle.reg_touched.proofs.next.Goals as goal

pub returns-in_err-check : goal.returns-in_err-check
returns-in_err-check c =
    let given = err_from_is_err_and c.from_residual.result c.from_residual.ensures.1 in
    rw (given.1, given.2) (not_found _ _ c.in_err-check.ensures c.args.from)

pub first_from-requires : goal.first_from-requires
first_from-requires c = few _ (sym c.in_ok-check.ensures)

pub returns : goal.returns
returns c = found _ (sym c.in_ok-check.ensures) c.args.from _ c.first_from.ensures
