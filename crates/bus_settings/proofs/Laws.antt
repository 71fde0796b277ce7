-- What is known of the next address.
use Prim.Native.Nat.{ℕ, ◌<◌}
use mathlib.Core.Bool.{Bool, true, false}
use native.Mathlib.Omega.{arith}
use Rattle.bus_settings.specs.Settings.{next_address}

-- the address after a byte has 15 bits
pub next_lt : (up : Bool) (a : ℕ) → next_address up a < 0x8000
next_lt true a = omega arith
next_lt false a = omega arith
