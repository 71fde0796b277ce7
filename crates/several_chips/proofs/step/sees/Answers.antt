-- `sees` meets its contract: a bit is 0 or 1, and lines up to 15 leave room for it.
use native.Mathlib.Omega.{arith}
use Rattle.bus_session_bytes.proofs.Laws.{flag_byte}
use Rattle.read_records.proofs.SlowCount.{flag_most}
use Rattle.several_chips.proofs.step.sees.Goals as goal

pub overflow_add-result : goal.overflow_add-result
overflow_add-result c = omega (arith, flag_most c.bit_at.result)

pub returns : goal.returns
returns c = rw (flag_byte c.bit_at.result, c.bit_at.ensures)
