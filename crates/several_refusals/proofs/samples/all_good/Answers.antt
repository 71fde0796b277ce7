-- `all_good` meets its contract: the samples passed, with the test of those that are left, are the whole test.
use mathlib.Core.Path.{◌∙◌}
use native.Mathlib.Omega.{arith}
use Rattle.several_refusals.proofs.SampleBytes.{good_more, samples_passed}
use Rattle.several_refusals.proofs.samples.all_good.Goals as goal

pub loop-sample-preserved : goal.loop-sample-preserved
loop-sample-preserved c =
    let at = c.loop-sample.invariant in
    let step = c.in-Some.ensures.steps in
    record {
      two = step.0 ∙ at.two;
      rest =
          good_more c.args.chips _ c.loop-sample.good at.rest c.in-Some.sample.now _ step.1.0 (step.1.1 ∙ at.two) _
          (rw (c.least_selects-least.ensures, c.lines_good.ensures));
    }

pub returns : goal.returns
returns c =
    let at = c.loop-sample.invariant in
    samples_passed c.args.chips _ c.loop-sample.good at.rest (omega (arith, at.two, c.in-None.ensures.steps.1.0))
