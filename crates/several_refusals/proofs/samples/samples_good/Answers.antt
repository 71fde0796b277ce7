-- `samples_good` meets its contract: the number of bytes, and then each sample.
use mathlib.Core.Path.{◌∙◌}
use Rattle.several_refusals.proofs.SampleBytes.{right_size, wrong_size}
use Rattle.several_refusals.proofs.samples.samples_good.Goals as goal

pub returns-then-samples : goal.returns-then-samples
returns-then-samples c = c.all_good.ensures ∙ right_size _ _ c.if-samples.true

pub returns : goal.returns
returns c = let a = c.args in wrong_size a.chips a.samples.now c.if-samples.false
