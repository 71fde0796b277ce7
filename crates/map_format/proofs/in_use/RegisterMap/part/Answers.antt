-- `part` meets its contract: the address is small enough for the entry's place to be a number.
use native.Mathlib.Omega.{arith}
use Rattle.map_format.proofs.Laws.{head_bounds}
use Rattle.map_format.proofs.in_use.RegisterMap.part.Goals as goal

pub overflow_add-head : goal.overflow_add-head
overflow_add-head c = omega (arith, c.head.ensures, head_bounds c.args.self.bytes.now)

pub overflow_add-head-2 : goal.overflow_add-head-2
overflow_add-head-2 c = omega (arith, c.head.ensures, head_bounds c.args.self.bytes.now)
