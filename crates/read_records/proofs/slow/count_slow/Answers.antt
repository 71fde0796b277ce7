-- `count_slow` meets its contract: those counted so far, with those of the records that are left, are the whole count.
use mathlib.Core.Path.{◌∙◌}
use native.Mathlib.Omega.{arith}
use Rattle.read_records.proofs.SlowCount.{turned, ended}
use Rattle.read_records.proofs.slow.count_slow.Goals as goal

pub loop-record-preserved : goal.loop-record-preserved
loop-record-preserved c =
    let k = c.loop-record.invariant in
    let s = c.in-Some.ensures.steps in
    (omega (arith, s.0, k.0), tt, s.0 ∙ k.2, turned k.3 _ _ (s.1.1 ∙ k.2) s.1.0 c.asks_slow.ensures)

pub returns : goal.returns
returns c = ended c.loop-record.invariant.3 (omega (arith, c.in-None.ensures.steps.1.0, c.loop-record.invariant.2))
