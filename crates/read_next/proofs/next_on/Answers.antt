-- `next_on` meets its contract: a refusal changes nothing; else just the samples up to the first record are read, as `read` reads them.
use mathlib.Core.Path.{refl, sym}
use mathlib.Core.List.{[]}
use native.Mathlib.Omega.{arith}
use Rattle.std.proofs.lemmas.Result.{err_from_is_err_and}
use Rattle.read_refusals.proofs.Laws.{some_refusal}
use Rattle.read_next.proofs.Laws.{refused_before, port_tested, short, size_fits, no_room, ready, next_done}
use Rattle.read_next.proofs.next_on.Goals as goal

pub returns-in_err-check_samples : goal.returns-in_err-check_samples
returns-in_err-check_samples c =
    let given = err_from_is_err_and c.from_residual.result c.from_residual.ensures.1 in
    rw (given.1, given.2) (refused_before _ _ _ _ _ _ _ _ _ c.in_err-check_samples.ensures (some_refusal _))

pub first_record-first-requires : goal.first_record-first-requires
first_record-first-requires c = port_tested _ _ _ _ _ _ _ [] _ c.in_ok-check_samples.ensures refl

pub overflow_mul-first : goal.overflow_mul-first
overflow_mul-first c =
    omega (arith, size_fits _ _ _ _ _ _ _ [] _ c.in_ok-check_samples.ensures refl c.first_record-first.ensures)

pub returns-then-records-first : goal.returns-then-records-first
returns-then-records-first c =
    no_room _ _ _ _ _ _ _ _ _ c.in_ok-check_samples.ensures refl c.first_record-first.ensures c.if-records-first.true

pub slice_bounds-read-end : goal.slice_bounds-read-end
slice_bounds-read-end c =
    sym (short _ _ _ _ _ _ _ [] _ c.in_ok-check_samples.ensures refl c.first_record-first.ensures)

pub run_samples-passed-requires : goal.run_samples-passed-requires
run_samples-passed-requires c =
    ready _ _ _ _ _ _ _ _ _ c.in_ok-check_samples.ensures refl c.first_record-first.ensures c.if-records-first.false

pub returns : goal.returns
returns c =
    next_done _ _ _ _ _ _ _ _ _ c.in_ok-check_samples.ensures refl
    c.first_record-first.ensures c.if-records-first.false c.run_samples-passed.ensures
