-- `high` meets its contract: with CSB high only the level of SCLK changes, to that of the last sample.
use mathlib.Core.Path.{refl}
use Rattle.bus_trace.proofs.Advance.{own, past_high}
use Rattle.bus_trace.specs.Scan.{progress}
use Rattle.bus_trace.proofs.quiet.high.Goals as goal

pub returns : goal.returns
returns c =
    let p = progress c.level_of.result c.args.port.bits c.args.port.value c.args.from in
    rw c.past_high-past.ensures.level_is
    (past_high c.args.chip c.requires.0 p c.past_high-past.result.at
    (own c.args.chip p c.requires.1 c.requires.2 c.level_of.ensures refl refl) c.past_high-past.ensures.past.high)
