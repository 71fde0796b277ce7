-- `count_records` meets its contract: the records counted, with those that the samples left give, are the whole.
use mathlib.Core.Path.{◌∙◌}
use native.Mathlib.Omega.{arith}
use Rattle.base_chip.specs.declared.Chip.TheVariants.{Newer}
use Rattle.bus_session.proofs.Laws.{fit_sound}
use Rattle.several_refusals.proofs.Counting.{lines_small, counted_more, counted_fits, counted_all}
use Rattle.several_refusals.proofs.room.count_records.Goals as goal

pub sees-x-requires : goal.sees-x-requires
sees-x-requires c =
    let at = c.loop-sample.invariant in
    let step = c.in-Some.ensures.steps in
    (lines_small at.counted _ _ step.1.0 (step.1.1 ∙ at.two), c.requires.number)

pub event-requires : goal.event-requires
event-requires c = fit_sound Newer _ c.loop-sample.invariant.counted.sound

pub overflow_add-count : goal.overflow_add-count
overflow_add-count c =
    let at = c.loop-sample.invariant in
    let step = c.in-Some.ensures.steps in
    omega (
      arith,
      counted_fits at.counted _ _ step.1.0 (step.1.1 ∙ at.two) c.sees-x.ensures c.event.ensures c.records_in-count.ensures,
    )

pub step-now-requires : goal.step-now-requires
step-now-requires c = fit_sound Newer _ c.loop-sample.invariant.counted.sound

pub loop-sample-preserved : goal.loop-sample-preserved
loop-sample-preserved c =
    let at = c.loop-sample.invariant in
    let step = c.in-Some.ensures.steps in
    record {
      two = step.0 ∙ at.two;
      counted = counted_more at.counted _ _ step.1.0 (step.1.1 ∙ at.two) c.sees-x.ensures c.event.ensures c.records_in-count.ensures c.step-now.ensures;
    }

pub returns : goal.returns
returns c =
    let at = c.loop-sample.invariant in
    counted_all at.counted (omega (arith, at.two, c.in-None.ensures.steps.1.0))
