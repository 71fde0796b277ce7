-- `take_words` meets its contract: each word gives its bits, and the scan goes on, or ends at a rise or where CSB is high.
use mathlib.Core.Path.{sym, ◌∙◌, ap}
use native.Mathlib.Omega.{arith}
use Rattle.bus_words.specs.Lanes.{highs_in}
use Rattle.bus_trace.proofs.Lanes.{took_rise, word_passed}
use Rattle.bus_trace.proofs.scan.take_words.Goals as goal

pub returns-then-b-ne0 : goal.returns-then-b-ne0
returns-then-b-ne0 c =
    took_rise (λ k. (c.type_inv.samples k).fits) c.loop-p.invariant (omega (arith, c.loop-p-test.true, c.loop-p.invariant.standing.within)) c.bits_at-b.ensures c.if-b-ne0.true
    _ c.lane.ensures

pub loop-p-preserved : goal.loop-p-preserved
loop-p-preserved c =
    let none-high = c.highs.ensures ∙ ap (highs_in 8) c.word_at-word.ensures in
    word_passed (λ k. (c.type_inv.samples k).fits) c.loop-p.invariant (omega (arith, c.loop-p-test.true, c.loop-p.invariant.standing.within)) c.bits_at-b.ensures c.if-b-ne0.false
    (sym none-high ∙ c.if-highs-ne0.false)
