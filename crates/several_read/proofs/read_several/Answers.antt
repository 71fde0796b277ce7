-- `read_several` meets its contract: a refusal changes nothing; else the turns give all of it.
use Rattle.std.proofs.lemmas.Result.{err_from_is_err_and}
use Rattle.several_read.proofs.Reached.{refused}
use Rattle.several_read.proofs.read_several.Goals as goal

pub returns-in_err-check_several : goal.returns-in_err-check_several
returns-in_err-check_several c =
    let a = c.args in
    let given = err_from_is_err_and c.from_residual.result c.from_residual.ensures.1 in
    rw (given.1, given.2) (refused a.map.now a.members.now a.memory.now a.samples.now a.records.now _ c.in_err-check_several.ensures.number)
