-- `count` meets its contract: each count has room for what is added, and no more records ask for slow than there are.
use Prim.Native.Nat.{◌/◌}
use native.Mathlib.Omega.{arith}
use lib.ListN.{length}
use Rattle.base_sizes.specs.Sizes.{record_size}
use Rattle.read_records.proofs.SlowCount.{slow_most}
use Rattle.text_recording.specs.Tally.{counted_of}
use Rattle.text_recording.proofs.tally.Tally.count.Goals as goal

pub overflow_add-self-3 : goal.overflow_add-self-3
overflow_add-self-3 c =
    let records = c.args.records.now in
    omega (arith, c.count_slow.ensures, slow_most (length records / record_size) records, c.requires.more_slow)

pub returns : goal.returns
unfolding counted_of
returns c = rw (c.count_slow.ensures, c.look-self.ensures)
