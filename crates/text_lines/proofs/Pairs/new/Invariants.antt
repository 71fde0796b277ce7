-- The entries up to the present one are pairs.
use Rattle.std.proofs.Common.{◌≡◌, ℕ, ◌<◌, length, get_or}
use Rattle.text_lines.specs.Pairs.{pair_of}
use Rattle.text_lines.proofs.Pairs.new.Given as goal

abbrev pub invariant-loop-x : goal.invariant-loop-x
invariant-loop-x l = (length l.table ≡ 256) × ((k : ℕ) → k < l.x → get_or l.table k 0 ≡ pair_of k)
