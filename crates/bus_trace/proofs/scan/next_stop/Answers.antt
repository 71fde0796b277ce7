-- `next_stop` meets its contract: past CSB high, or a scan of samples with CSB low.
use Rattle.bus_trace.proofs.Onward.{scan_high}
use Rattle.bus_trace.proofs.scan.next_stop.Goals as goal

pub returns-then-csb : goal.returns-then-csb
returns-then-csb c = scan_high c.args.from _ c.if-csb.true c.past_high-past.ensures
