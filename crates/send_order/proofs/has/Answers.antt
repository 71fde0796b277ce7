-- `has` meets its contract: a shift right is a quotient by a power of two.
use Rattle.std.proofs.Common.{rules}
use Rattle.base_bits.specs.Bits.{bit_at}
use Rattle.send_order.proofs.has.Goals as goal

pub returns : goal.returns
unfolding bit_at
returns c = search rules
