-- `read_tested` meets its contract: a refusal changes nothing; else the pass over the samples gives all of it.
use mathlib.Core.Path.{refl}
use Rattle.std.proofs.lemmas.Result.{err_from_is_err_and}
use Rattle.read_run.specs.Reading.{reader_state}
use Rattle.read_refusals.proofs.Laws.{some_refusal}
use Rattle.read_calls.proofs.Laws.{read_ready, read_refused, read_done}
use Rattle.read_calls.proofs.read_tested.Goals as goal

pub returns-in_err-check_read : goal.returns-in_err-check_read
returns-in_err-check_read c =
    let a = c.args in
    let w = reader_state a.session.now a.active.now a.buffer.now a.words.now in
    let given = err_from_is_err_and c.from_residual.result c.from_residual.ensures.1 in
    rw (given.1, given.2) (read_refused a.chip a.map.now w a.samples.now a.records.now _ c.in_err-check_read.ensures (some_refusal _))

pub run_samples-done-requires : goal.run_samples-done-requires
run_samples-done-requires c = read_ready _ _ _ _ _ _ c.in_ok-check_read.ensures refl

pub returns : goal.returns
returns c =
    let a = c.args in
    let w = reader_state a.session.now a.active.now a.buffer.now a.words.now in
    read_done a.chip a.map.now w a.samples.now a.records.now _ c.in_ok-check_read.ensures refl
    _ _ _ (c.run_samples-done.ensures.done refl)
