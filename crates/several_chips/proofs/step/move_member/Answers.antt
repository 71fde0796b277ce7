-- `move_member` meets its contract: the session, what the sample completes, and the mark are those of the definitions, each by its function.
use Rattle.several_chips.proofs.Moving.{fit_member, taking_event, moved_by_event}
use Rattle.several_chips.proofs.step.move_member.Goals as goal

pub event-event-requires : goal.event-event-requires
event-event-requires c =
    rw c.session_of-session.ensures
    (fit_member _ c.requires.sound)

pub step-after-requires : goal.step-after-requires
step-after-requires c =
    rw c.session_of-session.ensures
    (fit_member _ c.requires.sound)

pub take_within-took-requires : goal.take_within-took-requires
take_within-took-requires c =
    taking_event c.requires
    c.session_of-session.ensures
    c.sees-seen.ensures c.takes_bit-edge.ensures
    c.other_low.ensures c.event-event.ensures

pub returns : goal.returns
returns c =
    moved_by_event c.requires
    c.session_of-session.ensures c.sees-seen.ensures
    c.takes_bit-edge.ensures c.other_low.ensures c.event-event.ensures
    c.step-after.ensures c.take_within-took.ensures c.mid_read.ensures c.with_session.ensures
