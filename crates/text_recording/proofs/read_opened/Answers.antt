-- `read_opened` meets its contract and what its calls ask: a map that was opened is good, with the top that it gives and the words that it
-- needs, and one that was not has a number of the reader's.
use mathlib.Core.Path.{ap}
use Rattle.base_numbers.specs.Numbers.{number_of}
use Rattle.read_calls.proofs.Laws.{opened_good}
use Rattle.text_recording.proofs.Laws.{top_of_map, words_of_map, open_told}
use Rattle.text_recording.proofs.read_opened.Goals as goal

pub refuse-requires : goal.refuse-requires
refuse-requires g c = rw c.in-Err.is at (open_told _ _ c.chip_of-chip.ensures _ c.open_on.ensures)

pub read_trace-requires-clause-map : goal.read_trace-requires-clause-map
read_trace-requires-clause-map g c =
    let good = opened_good _ _ _ c.open_on.ensures (ap number_of c.in_default.is) in
    (good, top_of_map _ _ c.chip_of-chip.ensures good, words_of_map _ _ c.args.words.now good c.requires.words)
