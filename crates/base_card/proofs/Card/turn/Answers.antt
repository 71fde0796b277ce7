-- `turn` meets its contract: each entry of the card is its nibble turned.
use Rattle.std.proofs.Common.{arith}
use Rattle.base_card.proofs.Entries.{turned_by_card, by_card_lt}
use Rattle.base_card.proofs.Card.turn.Goals as goal

pub overflow_mul-result : goal.overflow_mul-result
overflow_mul-result c = omega (arith, by_card_lt c.args.self.now.nibbles c.args.self.now.mirrored c.args.byte (omega (arith, c.ranges)))

pub overflow_add-result : goal.overflow_add-result
overflow_add-result c = omega (arith, by_card_lt c.args.self.now.nibbles c.args.self.now.mirrored c.args.byte (omega (arith, c.ranges)))

pub returns : goal.returns
returns c = turned_by_card c.args.self.now.nibbles c.args.self.now.mirrored c.args.byte (omega (arith, c.ranges))
