-- `byte_at` meets its contract: the last bit is shifted in, and the value is a byte's.
use mathlib.Core.Path.{◌≡◌, ◌∙◌, ap}
use native.Mathlib.Omega.{arith}
use Rattle.base_bits.specs.Bits.{bit_at}
use Rattle.bus_session.specs.Step.{value_with}
use Rattle.read_run.proofs.scanning.byte_at.Goals as goal

pub bit_at-requires : goal.bit_at-requires
bit_at-requires c = omega (arith, c.requires.line)

pub shift_in-value-requires : goal.shift_in-value-requires
shift_in-value-requires c = (c.requires.room.unfinished, c.requires.room.small)

pub overflow_cast-result : goal.overflow_cast-result
overflow_cast-result c =
    let value_is : let a = c.args in
    c.shift_in-value.result ≡ value_with a.s.port (bit_at a.x a.s.line) =
    c.shift_in-value.ensures ∙ ap (value_with c.args.s.port) c.bit_at.ensures in
    omega (arith, value_is, c.requires.byte)

pub returns : goal.returns
returns c =
    let value_is : let a = c.args in
    c.shift_in-value.result ≡ value_with a.s.port (bit_at a.x a.s.line) =
    c.shift_in-value.ensures ∙ ap (value_with c.args.s.port) c.bit_at.ensures in
    value_is
