-- `length_bits` meets its contract: up to 3 bytes are counted, more are streamed.
use mathlib.Core.Path.{refl}
use borrow.Author.Tests.{le-leb, lt-leb}
use Rattle.base_bits.proofs.Cases.{yes, no}
use Rattle.send_samples.proofs.older.length_bits.Goals as goal

pub returns-then-count-le3 : goal.returns-then-count-le3
returns-then-count-le3 c = yes _ (le-leb _ _ c.if-count-le3.true) refl

pub returns-else-count-le3 : goal.returns-else-count-le3
returns-else-count-le3 c = no _ (lt-leb _ _ c.if-count-le3.false) refl
