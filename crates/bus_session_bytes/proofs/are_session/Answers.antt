-- `are_session` meets its contract: the tests of its list, joined.
use mathlib.Core.Bool.{and_assoc, and-true}
use native.Mathlib.Omega.{arith}
use lib.ListN.{length}
use borrow.Author.Tests.{eq-eqb, ne_eqb}
use Rattle.base_bits.specs.Tests.{every}
use Rattle.bus_session_bytes.specs.Layout.{session_size, are_session}
use Rattle.bus_session_bytes.proofs.Laws.{flags_are}
use Rattle.bus_session_bytes.proofs.are_session.Goals as goal

pub returns-then-bytes-ne-SIZE : goal.returns-then-bytes-ne-SIZE
unfolding are_session every
returns-then-bytes-ne-SIZE c = rw (ne_eqb (length c.args.bytes.now) session_size c.if-bytes-ne-SIZE.true)

pub returns : goal.returns
unfolding are_session every
returns c =
    let b = c.args.bytes.now in
    let some = flags_are 2 b 1 (omega arith) in
    let more = flags_are 10 b 9 (omega arith) in
    rw (eq-eqb (length b) session_size c.if-bytes-ne-SIZE.false, c.are_flags.ensures, c.are_flags-2.ensures, some, more) (simp (and_assoc, and-true))
