-- `low` meets its contract: a scan on the port's line, in its order.
use mathlib.Core.Path.{refl}
use Rattle.bus_trace.specs.Scan.{progress}
use Rattle.bus_trace.proofs.Advance.{own}
use Rattle.bus_trace.proofs.Onward.{start_standing}
use Rattle.bus_trace.proofs.quiet.low.Goals as goal

pub take_each-requires : goal.take_each-requires
take_each-requires c = start_standing c.args.chip c.args.port _ c.requires.1 c.requires.2 c.level_of.ensures refl refl c.last_of.ensures

pub returns : goal.returns
returns c =
    let p = progress c.level_of.result c.args.port.bits c.args.port.value c.args.from in
    c.take_each.ensures.onward.carried
    (record { low = c.requires.0; line_is = c.line_of.ensures; order_is = refl; last_is = c.last_of.ensures })
    (own c.args.chip p c.requires.1 c.requires.2 c.level_of.ensures refl refl)
