-- `shift_in` meets its contract: for each bit order, the law of shift and or.
use Rattle.base_bits.proofs.Laws.{above, under}
use Rattle.base_bits.proofs.shift_in.Goals as goal

pub returns-then-lsb_first : goal.returns-then-lsb_first
returns-then-lsb_first c =
    let a = c.args in
    rw c.if-lsb_first.true (above a.value a.bits a.bit c.requires.0 c.requires.1)

pub returns-else-lsb_first : goal.returns-else-lsb_first
returns-else-lsb_first c =
    let a = c.args in
    rw c.if-lsb_first.false (under a.value a.bits a.bit c.requires.0 c.requires.1)
