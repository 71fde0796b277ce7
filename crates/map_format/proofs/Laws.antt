-- Laws of the map's format: how large n can be, and what an entry is.
use mathlib.Core.Path.{◌≡◌}
use mathlib.Core.Bool.{Bool, cond}
use mathlib.Core.List.{List}
use Prim.Native.Nat.{ℕ, ◌+◌, ◌^◌, ◌≤◌, ◌<◌}
use native.Mathlib.Nat.{add-zero}
use native.Mathlib.Omega.{arith}
use borrow.Author.Tests.{lt-ltb, le-ltb}
use lib.Dec.{eqb, ltb}
use Rattle.base_bits.specs.Bytes.{byte_at}
use Rattle.base_bits.proofs.Cases.{each}
use Rattle.map_format.specs.declared.Entry.{Entry}
use Rattle.map_format.specs.Format.{version_of, count_of, head_size_in, head_of, entry_start, entry_at}

-- n is two bytes
pub count_fits : (m : List ℕ) → ((i : ℕ) → byte_at m i < 2 ^ 8) → count_of m < 2 ^ 16
unfolding count_of
count_fits m byte = omega (arith, byte 3, byte 4)

-- the head is 5 or 6 bytes
pub head_size_bounds : (version : ℕ) → (5 ≤ head_size_in version) × (head_size_in version ≤ 6)
head_size_bounds version = each (λ (h : ℕ). (5 ≤ h) × (h ≤ 6)) (eqb version 2) (λ t. (omega arith, omega arith)) (λ t. (omega arith, omega arith))

pub head_bounds : (m : List ℕ) → (5 ≤ head_of m) × (head_of m ≤ 6)
unfolding head_of
head_bounds m = head_size_bounds (version_of m)

-- the parts of the entry that begins at a place: bytes where the map has the entry, else 0
abbrev parts : Bool → List ℕ → ℕ → Entry
parts has m at = record { kind = cond has (byte_at m (at + 0)) 0; mask = cond has (byte_at m (at + 1)) 0; default = cond has (byte_at m (at + 2)) 0 }

pub entry_parts : (m : List ℕ) (n a : ℕ) → entry_at m n a ≡ parts (ltb a n) m (entry_start m a)
unfolding entry_at
entry_parts m n a =
    each (λ (e : Entry). e ≡ parts (ltb a n) m (entry_start m a)) (ltb a n) (λ t. rw (t, add-zero (entry_start m a))) (λ t. rw t)

-- an entry that the map has is three bytes in a row
pub entry_bytes_lem :
    (m : List ℕ) (n a : ℕ) → a < n
    → record { kind = byte_at m (entry_start m a); mask = byte_at m (entry_start m a + 1); default = byte_at m (entry_start m a + 2) } ≡ entry_at m n a
entry_bytes_lem m n a h = rw (entry_parts m n a, lt-ltb a n h, add-zero (entry_start m a))

pub entry_beyond : (m : List ℕ) (n a : ℕ) → n ≤ a → (entry_at m n a).kind ≡ 0
entry_beyond m n a h = rw (entry_parts m n a, le-ltb a n h)
