-- `mend` meets its contract: a call that is refused leaves both, and another mends the map and lists what it alters.
use mathlib.Core.Path.{sym}
use Rattle.std.proofs.lemmas.Result.{err_from_is_err_and}
use Rattle.map_mend.proofs.Laws.{done, refused}
use Rattle.map_mend.proofs.mend.Goals as goal

pub returns-in_err-check : goal.returns-in_err-check
returns-in_err-check c =
    let given = err_from_is_err_and c.from_residual.result c.from_residual.ensures.1 in
    rw (given.1, given.2) (refused _ _ _ c.in_err-check.ensures)

pub returns : goal.returns
returns c = done _ _ _ _ _ (sym c.in_ok-check.ensures) c.mend_entries.ensures
