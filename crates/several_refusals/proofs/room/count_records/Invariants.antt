use mathlib.Core.Path.{◌≡◌}
use Rattle.std.specs.Slice.Iter.{chunks_exact_rest, chunks_exact_size}
use Rattle.several_refusals.proofs.Counting.{Counted}
use Rattle.several_refusals.proofs.room.count_records.Given as goal

abbrev pub invariant-loop-sample : goal.invariant-loop-sample
invariant-loop-sample l = record {
  two : chunks_exact_size l.sample-iterator ≡ 2;
  counted : Counted l.chip l.samples (chunks_exact_rest l.sample-iterator) l.initial.now l.now l.count;
}
