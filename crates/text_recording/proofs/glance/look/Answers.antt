-- `look` meets its contract: what was seen so far, with the samples that are left, comes to the whole.
use mathlib.Core.Path.{sym, ◌∙◌}
use Rattle.text_recording.proofs.Looking.{rose_stays, look_more, look_all}
use Rattle.text_recording.proofs.glance.look.Goals as goal

pub returns-then-seen : goal.returns-then-seen
returns-then-seen c =
    let l = c.loop-x in
    sym (rose_stays l.seen _ c.if-seen.true) ∙ l.invariant

pub loop-x-preserved : goal.loop-x-preserved
loop-x-preserved c =
    let l = c.loop-x in
    rw (c.falls.ensures, c.rises.ensures) (look_more l.seen c.args.samples.now l.x-index c.loop-x-test.true c.if-seen.false ∙ l.invariant)

pub returns : goal.returns
returns c =
    let l = c.loop-x in
    look_all l.seen c.args.samples.now l.x-index c.loop-x-test.false ∙ l.invariant
