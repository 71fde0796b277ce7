-- `rises` meets its contract: the rest of the list decides, until two addresses do not rise or no two are left.
use mathlib.Core.Path.{sym, ◌∙◌}
use borrow.Author.Tests.{lt-ltb, le-ltb}
use Rattle.send_frames.proofs.Listed.{next_pair, no_pair}
use Rattle.send_frames.proofs.registers.rises.Goals as goal

pub returns-then-pair : goal.returns-then-pair
returns-then-pair c =
    let i = c.loop-pair.invariant in
    let n = next_pair c.loop-pair.pair-iterator c.next.new.self _ _ c.in-Some.is c.next.ensures.steps i.0 in
    sym (n.1 ∙ rw (le-ltb _ _ c.if-pair.true)) ∙ i.1

pub loop-pair-preserved : goal.loop-pair-preserved
loop-pair-preserved c =
    let i = c.loop-pair.invariant in
    let n = next_pair c.loop-pair.pair-iterator c.next.new.self _ _ c.in-Some.is c.next.ensures.steps i.0 in
    (n.0, sym (n.1 ∙ rw (lt-ltb _ _ c.if-pair.false)) ∙ i.1)

pub returns : goal.returns
returns c =
    let i = c.loop-pair.invariant in
    no_pair c.loop-pair.pair-iterator c.next.new.self _ c.in-None.is c.next.ensures.steps i.0 ∙ i.1
