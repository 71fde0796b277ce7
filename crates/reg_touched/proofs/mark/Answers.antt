-- `mark` meets its contract: a call that is refused leaves the words, and another clears them.
use mathlib.Core.Path.{sym, ap, ◌∙◌}
use native.Mathlib.Omega.{arith}
use Rattle.std.proofs.lemmas.Result.{err_from_is_err_and}
use Rattle.reg_touched.specs.Touched.{cleared_words}
use Rattle.reg_touched.specs.Calls.{marking}
use Rattle.reg_touched.proofs.Answer.{marked, not_marked}
use Rattle.reg_touched.proofs.mark.Goals as goal

pub returns-in_err-check : goal.returns-in_err-check
returns-in_err-check c =
    let given = err_from_is_err_and c.from_residual.result c.from_residual.ensures.1 in
    rw (given.1, given.2) (not_marked _ _ c.in_err-check.ensures)

pub returns : goal.returns
unfolding cleared_words
returns c = ap (marking 0) (c.fill.ensures.after (λ y e. omega arith)) ∙ marked c.args.words.now (sym c.in_ok-check.ensures)
