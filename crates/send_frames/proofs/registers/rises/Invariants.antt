use mathlib.Core.Path.{◌≡◌}
use Rattle.std.specs.Slice.Iter.{windows_size, windows_rest}
use Rattle.send_frames.specs.Calls.{rising}
use Rattle.send_frames.proofs.registers.rises.Given as goal

abbrev pub invariant-loop-pair : goal.invariant-loop-pair
invariant-loop-pair l =
    (windows_size l.pair-iterator ≡ 2) × (rising (windows_rest l.pair-iterator) ≡ rising l.addresses)
