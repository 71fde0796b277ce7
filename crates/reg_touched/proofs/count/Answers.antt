-- `count` meets its contract: the bits are counted where the call is not refused.
use mathlib.Core.Path.{sym}
use Rattle.std.proofs.lemmas.Result.{err_from_is_err_and}
use Rattle.reg_touched.proofs.Answer.{few, counted, not_counted}
use Rattle.reg_touched.proofs.count.Goals as goal

pub returns-in_err-check : goal.returns-in_err-check
returns-in_err-check c =
    let given = err_from_is_err_and c.from_residual.result c.from_residual.ensures.1 in
    rw (given.1, given.2) (not_counted _ _ c.in_err-check.ensures)

pub count_ones-requires : goal.count_ones-requires
count_ones-requires c = few _ (sym c.in_ok-check.ensures)

pub returns : goal.returns
returns c = counted _ (sym c.in_ok-check.ensures) _ c.count_ones.ensures
