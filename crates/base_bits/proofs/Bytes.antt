-- Sixteen bits as two bytes, read again.
use mathlib.Core.Path.{◌≡◌}
use mathlib.Core.List.{List, ◌++◌}
use Prim.Native.Nat.{ℕ}
use native.Mathlib.Omega.{arith}
use Rattle.base_bits.specs.Bytes.{word_at, word_bytes}

pub word_back : (x : ℕ) (rest : List ℕ) → word_at (word_bytes x ++ rest) 0 ≡ x
word_back x rest = omega arith
