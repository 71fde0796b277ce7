-- `open_on` meets its contract: done, each default stands in both banks; refused, the banks are as they were.
use mathlib.Core.Path.{refl, sym}
use Rattle.std.proofs.lemmas.Result.{err_from_is_err_and}
use Rattle.read_refusals.proofs.Laws.{opens, fits_mapped, some_refusal}
use Rattle.read_calls.proofs.Laws.{open_refused, open_done}
use Rattle.read_calls.proofs.open_on.Goals as goal

pub returns-in_err-tested : goal.returns-in_err-tested
returns-in_err-tested c =
    let given = err_from_is_err_and c.from_residual.result c.from_residual.ensures.1 in
    rw (given.1, given.2) (open_refused _ _ _ _ c.in_err-tested.ensures _ c.opened.ensures (some_refusal _))

pub reset-requires : goal.reset-requires
reset-requires c =
    let t = opens _ _ _ (sym c.in_ok-tested.ensures) in
    fits_mapped _ _ t.fits

pub returns : goal.returns
returns c = open_done _ _ _ _ c.in_ok-tested.ensures _ c.opened.ensures refl _ c.reset.ensures
