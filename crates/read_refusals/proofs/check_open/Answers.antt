-- `check_open` meets its contract: the map first, then the banks, then the top.
use mathlib.Core.Path.{refl, sym, ◌∙◌, ap}
use Rattle.std.proofs.lemmas.Result.{err_from_is_err_and}
use Rattle.base_bits.proofs.Cases.{yes, no}
use Rattle.base_numbers.specs.Numbers.{number_of}
use Rattle.reg_banks.specs.Banks.{banks}
use Rattle.read_refusals.proofs.Laws.{map_refused, banks_next, some_refusal}
use Rattle.read_refusals.proofs.check_open.Goals as goal

pub returns-in_err-tested : goal.returns-in_err-tested
returns-in_err-tested c =
    let given = err_from_is_err_and c.from_residual.result c.from_residual.ensures.1 in
    let was = c.in_err-tested.was in
    let n = sym (ap number_of was) ∙ c.requires in
    rw (given.1, given.2) (map_refused _ _ (banks c.args.active.now c.args.buffer.now) _ n (some_refusal _))

pub returns-then-not-fit : goal.returns-then-not-fit
returns-then-not-fit c =
    banks_next _ _ _ _ c.requires (ap number_of c.in_ok-tested.was) _ _ c.count-count.ensures
    (no _ c.if-not-fit.true refl)

pub returns-then-not-top_fits : goal.returns-then-not-top_fits
returns-then-not-top_fits c =
    banks_next _ _ _ _ c.requires (ap number_of c.in_ok-tested.was) _ _ c.count-count.ensures
    (yes _ c.if-not-fit.false (no _ (sym c.top_fits.ensures ∙ c.if-not-top_fits.true) refl))

pub returns : goal.returns
returns c =
    banks_next _ _ _ _ c.requires (ap number_of c.in_ok-tested.was) _ _ c.count-count.ensures
    (yes _ c.if-not-fit.false (yes _ (sym c.top_fits.ensures ∙ c.if-not-top_fits.false) refl))
