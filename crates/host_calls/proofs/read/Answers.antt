-- `read` meets its contract: bytes that are a session are read as `read_on` reads it, and its next session is bytes again.
use mathlib.Core.Path.{sym, ◌∙◌}
use Rattle.host_calls.proofs.Laws.{no_session, read_bytes, amount_or}
use Rattle.host_calls.proofs.read.Goals as goal

pub returns-then-not-are_session : goal.returns-then-not-are_session
returns-then-not-are_session c =
    rw c.from.ensures (no_session _ _ _ _ _ _ _ _ (sym c.are_session.ensures ∙ c.if-not-are_session.true))

pub returns : goal.returns
returns c =
    rw (c.number_of.ensures, c.unwrap_or.ensures, amount_or c.read_on-answer.result)
    (read_bytes _ _ _ _ _ _ _ _ (sym c.are_session.ensures ∙ c.if-not-are_session.false)
    c.session_of.ensures c.read_on-answer.ensures _ c.bytes_of.ensures)
