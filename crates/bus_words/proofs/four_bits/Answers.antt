-- `four_bits` meets its contract: a mask leaves the four bits, and shifts bring them together.
use Rattle.bus_words.proofs.Seconds.{four_bits_are}
use Rattle.bus_words.proofs.four_bits.Goals as goal

pub returns : goal.returns
returns c = four_bits_are c.args.word c.args.line
