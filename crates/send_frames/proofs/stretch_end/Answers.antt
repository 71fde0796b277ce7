-- `stretch_end` meets its contract: the neighbours that are passed, with those still to come, are all of them.
use mathlib.Core.Path.{refl}
use native.Mathlib.Omega.{arith}
use Rattle.send_frames.proofs.Rows.{row_on, row_ends, row_last}
use Rattle.send_frames.proofs.stretch_end.Goals as goal

pub overflow_cast-last : goal.overflow_cast-last
overflow_cast-last c = omega (arith, c.type_inv.addresses c.args.from)

pub loop-end-init : goal.loop-end-init
loop-end-init c = (omega (arith, c.type_inv.addresses c.args.from), record { within = omega arith; row = refl })

pub overflow_cast-next : goal.overflow_cast-next
overflow_cast-next c = omega (arith, c.type_inv.addresses c.loop-end.end)

pub overflow_add-last : goal.overflow_add-last
overflow_add-last c = omega (arith, c.loop-end.invariant.0)

pub returns-then-next-last : goal.returns-then-next-last
returns-then-next-last c = row_ends c.loop-end.invariant.1 c.loop-end-test.true c.if-next-last.true

pub loop-end-preserved : goal.loop-end-preserved
loop-end-preserved c = (
  omega (arith, c.type_inv.addresses c.loop-end.end),
  row_on c.loop-end.invariant.1
      c.loop-end-test.true c.if-next-last.false,
)

pub returns : goal.returns
returns c = omega (arith, row_last c.loop-end.invariant.1 c.loop-end-test.false, c.loop-end.invariant.1.within)
