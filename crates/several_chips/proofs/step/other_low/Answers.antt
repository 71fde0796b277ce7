-- `other_low` meets its contract: one shifted left is a power of two below 256.
use lib.Pow.{shl_exact}
use native.Mathlib.Omega.{arith}
use native.Mathlib.Nat.{one-mul}
use lib.Dec.{lit<}
use Rattle.several_chips.proofs.step.other_low.Goals as goal

pub returns : goal.returns
returns c = rw (shl_exact 1 c.args.chip 8 (lit< tt) (omega arith), one-mul)
