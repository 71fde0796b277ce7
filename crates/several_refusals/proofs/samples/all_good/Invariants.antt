use mathlib.Core.Path.{◌≡◌}
use mathlib.Core.Bool.{◌&&◌}
use Rattle.std.specs.Slice.Iter.{chunks_exact_rest, chunks_exact_size}
use Rattle.several_chips.specs.Samples.{samples_in, all_good}
use Rattle.several_refusals.proofs.samples.all_good.Given as goal

abbrev pub invariant-loop-sample : goal.invariant-loop-sample
invariant-loop-sample l = record {
  two : chunks_exact_size l.sample-iterator ≡ 2;
  rest : (l.good && all_good l.chips (samples_in (chunks_exact_rest l.sample-iterator))) ≡ all_good l.chips (samples_in l.samples);
}
