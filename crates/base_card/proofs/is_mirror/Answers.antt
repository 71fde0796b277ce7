-- `is_mirror` meets its contract: the byte beside what the card turns it into.
use Rattle.base_card.specs.Card.{is_mirror}
use Rattle.base_card.proofs.is_mirror.Goals as goal

pub returns : goal.returns
unfolding is_mirror
returns c = rw c.turn.ensures
