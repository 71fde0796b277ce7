use Rattle.send_frames.proofs.Listed.{Allowed}
use Rattle.send_frames.proofs.registers.all_may_be_listed.Given as goal

abbrev pub invariant-loop-address : goal.invariant-loop-address
invariant-loop-address l = Allowed l.addresses l.address-index
