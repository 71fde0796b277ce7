-- How many records the end of a frame gives.
use mathlib.Core.Path.{◌≡◌, refl}
use mathlib.Core.Bool.{Bool}
use Prim.Native.Nat.{ℕ, ◌+◌, ◌*◌}
use native.Mathlib.Omega.{arith}
use borrow.Author.Tests.{eq-eqb, ne_eqb}
use Rattle.base_sizes.specs.Sizes.{record_size}
use Rattle.read_records.specs.Records.{records_in}
use Rattle.read_records.specs.Promises.{end_of}

pub end_none : (place address bits : ℕ) (d : Bool) → bits ≡ 0 → place ≡ place + record_size * records_in (end_of address bits d)
end_none place address bits d e = rw (eq-eqb bits 0 e) (omega arith)

pub end_one : (place address bits : ℕ) (d : Bool) → (bits ≡ 0 → ⊥) → place + record_size ≡ place + record_size * records_in (end_of address bits d)
end_one place address bits d n = rw (ne_eqb bits 0 n) refl
