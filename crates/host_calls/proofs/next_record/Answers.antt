-- `next_record` meets its contract: as `read` does, over `next_on`.
use mathlib.Core.Path.{sym, ◌∙◌}
use Rattle.host_calls.proofs.Laws.{no_session_next, next_bytes, found_or}
use Rattle.host_calls.proofs.next_record.Goals as goal

pub returns-then-not-are_session : goal.returns-then-not-are_session
returns-then-not-are_session c =
    rw c.from.ensures (no_session_next _ _ _ _ _ _ _ _ (sym c.are_session.ensures ∙ c.if-not-are_session.true))

pub returns : goal.returns
returns c =
    rw (c.number_of.ensures, c.unwrap_or-next.ensures, found_or c.next_on-found.result)
    (next_bytes _ _ _ _ _ _ _ _ (sym c.are_session.ensures ∙ c.if-not-are_session.false)
    c.session_of.ensures c.next_on-found.ensures _ c.bytes_of.ensures)
