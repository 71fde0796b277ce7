-- Document 02, Ask 10, in steps: a range of the code, as the numbers are defined on it.
use Rattle.several_chips.specs.declared.Member.{Member}
use Rattle.several_chips.specs.Numbers as numbers
use Rattle.several_refusals.specs.declared.memory.Range as code

-- its start and size
abbrev pub range_of : code.Range → numbers.Range
range_of r = record { start = r.start; size = r.size }

-- the two ranges of a chip
abbrev pub active_of : Member → numbers.Range
active_of w = record { start = w.active_start; size = w.active_length }

abbrev pub buffer_of : Member → numbers.Range
buffer_of w = record { start = w.buffer_start; size = w.buffer_length }
