-- `sound_member` meets its contract: the bytes are a session, and then its tests in the order of the definition.
use mathlib.Core.Path.{sym, ◌∙◌}
use Rattle.several_chips.specs.Members.{sound_member}
use Rattle.several_refusals.proofs.members.sound_member.Goals as goal

pub returns-then-are_session-clause-sound : goal.returns-then-are_session-clause-sound
unfolding sound_member
returns-then-are_session-clause-sound c =
    rw (
      sym c.are_session.ensures
          ∙ c.if-are_session.true,
      c.sound.ensures,
      c.mark_good.ensures,
      c.session_of-session.ensures,
    )

pub returns-clause-sound : goal.returns-clause-sound
unfolding sound_member
returns-clause-sound c = rw (sym c.are_session.ensures ∙ c.if-are_session.false)
