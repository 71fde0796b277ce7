use Rattle.std.specs.Slice.Iter.{chunks_exact_rest, chunks_exact_size}
use mathlib.Core.Path.{◌≡◌}
use Rattle.base_sizes.specs.Sizes.{record_size}
use Rattle.read_records.proofs.SlowCount.{SlowCounting}
use Rattle.read_records.proofs.slow.count_slow.Given as goal

abbrev pub invariant-loop-record : goal.invariant-loop-record
invariant-loop-record l =
    (goal.iterator-loop-record).can_next l.record-iterator ×
    (goal.iterator-loop-record).is_finite l.record-iterator ×
    (chunks_exact_size l.record-iterator ≡ record_size) ×
    SlowCounting l.records (chunks_exact_rest l.record-iterator) l.slow
