-- `first_record` meets its contract: the samples passed give no record, until one does.
use mathlib.Core.Path.{sym, ◌∙◌}
use native.Mathlib.Omega.{arith}
use Rattle.read_next.proofs.Search.{search_begun, search_on, found, none_found}
use Rattle.read_next.proofs.first_record.Goals as goal

pub loop-taken-init : goal.loop-taken-init
loop-taken-init c = search_begun c.requires

pub next_event-next-requires : goal.next_event-next-requires
next_event-next-requires c = (c.loop-taken.invariant.sound, c.loop-taken-test.true)

pub returns-then-count-ne0 : goal.returns-then-count-ne0
returns-then-count-ne0 c =
    found c.loop-taken.invariant c.next_event-next.ensures.path _
    c.records_in-count.ensures c.if-count-ne0.true

pub loop-taken-smaller : goal.loop-taken-smaller
loop-taken-smaller c =
    let n = c.next_event-next.ensures in
    omega (arith, n.further, n.within)

pub loop-taken-preserved : goal.loop-taken-preserved
loop-taken-preserved c =
    search_on c.loop-taken.invariant c.next_event-next.ensures.path
    (sym c.records_in-count.ensures ∙ c.if-count-ne0.false)

pub returns : goal.returns
returns c = none_found c.loop-taken.invariant c.loop-taken-test.false
