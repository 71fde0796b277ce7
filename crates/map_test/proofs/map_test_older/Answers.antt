-- `map_test_older` meets its contract: the map's own refusal first, and number 12 only of a good map.
use mathlib.Core.Path.{refl, sym, ◌∙◌}
use borrow.Author.Tests.{eq-eqb}
use Rattle.std.proofs.lemmas.Result.{err_from_is_err_and}
use Rattle.base_bits.proofs.Cases.{yes, no}
use Rattle.map_test.specs.MapTest.{map_test_number}
use Rattle.map_test.proofs.Laws.{refused_by}
use Rattle.map_test.proofs.map_test_older.Goals as goal

pub returns-in_err-check_map : goal.returns-in_err-check_map
unfolding map_test_number
returns-in_err-check_map c =
    let refused = c.in_err-check_map.ensures in
    let given = err_from_is_err_and c.from_residual.result c.from_residual.ensures.1 in
    rw (given.1, given.2) (no _ (refused_by _ _ refused) refused)

pub returns-then-top_fits : goal.returns-then-top_fits
unfolding map_test_number
returns-then-top_fits c =
    yes _ (eq-eqb _ 0 (sym c.in_ok-check_map.ensures)) (yes _ (sym c.top_fits.ensures ∙ c.if-top_fits.true) refl)

pub returns : goal.returns
unfolding map_test_number
returns c =
    yes _ (eq-eqb _ 0 (sym c.in_ok-check_map.ensures)) (no _ (sym c.top_fits.ensures ∙ c.if-top_fits.false) refl)
