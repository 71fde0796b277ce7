-- `word_at` meets its contract: each sample stands above those before it.
use mathlib.Core.Path.{◌∙◌}
use Rattle.bus_words.proofs.Samples.{word_of_eight}
use Rattle.bus_words.proofs.word_at.Goals as goal

pub returns : goal.returns
returns c = c.from_le_bytes.ensures ∙ word_of_eight _ (λ k. (c.type_inv.samples k).fits) _
