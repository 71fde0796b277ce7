-- `value_fits` meets its contract: the shift by so many bits leaves 0 of it, and with 16 bits every value fits.
use native.Mathlib.Omega.{arith}
use borrow.Author.Tests.{lt-ltb}
use lib.Pow.{pow_mono}
use Rattle.base_bits.proofs.Laws.{below_power}
use mathlib.Core.Path.{sym}
use Prim.Native.Nat.{◌^◌}
use Rattle.bus_soundness.proofs.value_fits.Goals as goal

pub returns-then-bits-lt16 : goal.returns-then-bits-lt16
returns-then-bits-lt16 c = below_power c.args.value c.args.bits

pub returns : goal.returns
returns c =
    let a = c.args in
    sym (lt-ltb a.value (2 ^ a.bits) (omega (arith, pow_mono {i = 16} {j = a.bits} (omega arith))))
