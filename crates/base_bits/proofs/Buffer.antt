-- Bytes stored into a buffer one after another, and the bytes of one from a place on.
use mathlib.Core.Path.{◌≡◌, ◌∙◌}
use mathlib.Core.List.{List, [], ◌∷◌, ◌++◌}
use Prim.Native.Nat.{ℕ, suc, ◌+◌, ◌-◌, ◌≤◌}
use native.Mathlib.Omega.{arith}
use native.Mathlib.Nat.{add-zero, add-suc, suc-add, zero-add}
use lib.ListN.{length, take, drop, length-drop}
use lib.Seq.{sets, sets-eq, take_all}
use Rattle.base_bits.specs.Buffer.{filled}

-- two runs of bytes, the second at the place after the first
pub sets_append : (a b l : List ℕ) (i : ℕ) → sets l i (a ++ b) ≡ sets (sets l i a) (i + length a) b
sets_append [] b l i = rw add-zero
sets_append (x ∷ a) b l i = rw (add-suc, ← suc-add) (sets_append a b _ (suc i))

-- bytes from the start on
pub sets_filled : (bytes old : List ℕ) → length bytes ≤ length old → sets old 0 bytes ≡ filled bytes old
sets_filled bytes old h = sets-eq bytes old 0 (omega arith) ∙ rw zero-add

-- a slice from a place on is the rest of its list
pub from_on : (l : List ℕ) (i : ℕ) → take (length l - i) (drop i l) ≡ drop i l
from_on l i = take_all (length l - i) (drop i l) (omega (arith, length-drop i l))
