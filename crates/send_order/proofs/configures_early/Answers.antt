-- `configures_early` meets its contract: of a write in single instruction what is left of the run decides, until an address is found or
-- the last byte is reached.
use Rattle.send_order.proofs.Early.{found, passed, missed}
use Rattle.send_order.proofs.configures_early.Goals as goal

pub returns-then-address : goal.returns-then-address
returns-then-address c =
    rw c.if-not-single_write.false
    (found c.loop.invariant c.loop-test.true c.if-address.true)

pub loop-preserved : goal.loop-preserved
loop-preserved c =
    rw c.next_address-address.ensures
    (passed c.loop.invariant c.loop-test.true c.if-address.false)

pub returns : goal.returns
returns c =
    rw c.if-not-single_write.false
    (missed c.loop.invariant c.loop-test.false)
