-- `registers_good` meets its contract: the tests are those of the definition.
use mathlib.Core.Bool.{true}
use Rattle.base_bits.proofs.Cases.{joined_every}
use Rattle.send_frames.specs.Calls.{registers_tests}
use Rattle.send_frames.proofs.registers.registers_good.Goals as goal

pub returns : goal.returns
returns c =
    let a = c.args in
    rw (c.rises.ensures, c.all_may_be_listed.ensures) (joined_every true (registers_tests a.addresses.now a.bytes.now))
