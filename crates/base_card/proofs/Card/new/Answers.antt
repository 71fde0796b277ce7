-- `new` makes a card: its entries are the nibbles turned.
use Rattle.base_card.proofs.Entries.{is_card}
use Rattle.base_card.proofs.Card.new.Goals as goal

pub invariant_of-result : goal.invariant_of-result
invariant_of-result c = record { mirrored = is_card }
