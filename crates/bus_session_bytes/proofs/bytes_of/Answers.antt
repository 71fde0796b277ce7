-- `bytes_of` meets its contract: each byte is its field.
use native.Mathlib.Omega.{arith}
use Rattle.bus_session_bytes.specs.Layout.{session_bytes}
use Rattle.bus_session_bytes.proofs.Laws.{flag_byte, high_small}
use Rattle.bus_session_bytes.proofs.bytes_of.Goals as goal

pub returns : goal.returns
unfolding session_bytes
returns c =
    let p = c.args.session.port in
    rw (c.phase_byte.ensures, c.to_be_bytes.ensures, c.to_be_bytes-2.ensures, high_small p.value (omega arith), high_small p.address (omega arith))
    (simp flag_byte)
