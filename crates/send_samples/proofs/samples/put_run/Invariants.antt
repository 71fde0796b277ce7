use Prim.Native.Nat.{◌<◌}
use lib.ListN.{drop}
use Rattle.base_bits.proofs.Putting.{Putting}
use Rattle.send_order.specs.Order.{sent_of}
use Rattle.send_samples.specs.Run.{run_samples}
use Rattle.send_samples.proofs.samples.put_run.Given as goal

abbrev pub invariant-loop-i : goal.invariant-loop-i
invariant-loop-i l =
    (l.address < 0x8000)
    × Putting l.initial.out l.at (run_samples l.run l.start (sent_of l.run.read l.count l.«data»)) (run_samples l.run l.address (drop l.i (sent_of l.run.read l.count l.«data»))) l.n l.out
