-- `check` meets its contract: one comparison with the most words.
use native.Mathlib.Omega.{arith}
use Rattle.reg_touched.proofs.Answer.{number_16, number_0}
use Rattle.reg_touched.proofs.check.Goals as goal

pub returns-then-words-gt-MOST_WORDS : goal.returns-then-words-gt-MOST_WORDS
returns-then-words-gt-MOST_WORDS c = number_16 c.args.words.now (omega (arith, c.if-words-gt-MOST_WORDS.true))

pub returns : goal.returns
returns c = number_0 c.args.words.now (omega (arith, c.if-words-gt-MOST_WORDS.false))
