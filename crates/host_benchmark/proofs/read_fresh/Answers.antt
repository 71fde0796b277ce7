-- `read_fresh` meets its contract: each way out is one law.
use mathlib.Core.Path.{refl}
use Rattle.std.proofs.lemmas.Result.{err_from_is_err_and}
use Rattle.host_benchmark.proofs.Laws.{refused, read_on}
use Rattle.host_benchmark.proofs.read_fresh.Goals as goal

pub returns-in_err-open_on : goal.returns-in_err-open_on
returns-in_err-open_on c =
    let given = err_from_is_err_and c.from_residual.result c.from_residual.ensures.1 in
    rw (given.1, given.2) (refused _ _ _ _ _ _ _ _ _ c.in_err-open_on.ensures _ refl)

pub returns : goal.returns
returns c = read_on _ _ _ _ _ _ _ _ _ c.in_ok-open_on.ensures refl _ _ _ _ c.read_on.ensures
