-- `stays_up_to` meets its contract: the two ends of a run decide for all of its addresses.
use mathlib.Core.Path.{sym}
use native.Mathlib.Omega.{arith}
use Rattle.send_order.proofs.Addresses.{starts_above, stays_up, stays_down}
use Rattle.send_order.proofs.stays_up_to.Goals as goal

pub returns-then-top-start : goal.returns-then-top-start
returns-then-top-start c = λ bytes l. starts_above _ c.requires.0 _ _ bytes (omega (arith, c.requires.1, l)) c.if-top-start.true

pub returns-then-up : goal.returns-then-up
returns-then-up c = λ bytes l. rw (c.if-up.true, sym l) (stays_up _ c.requires.0 _ bytes c.if-top-start.false)

pub returns : goal.returns
returns c = λ bytes l. rw (c.if-up.false, sym l) (stays_down _ c.requires.0 _ bytes c.if-top-start.false)
