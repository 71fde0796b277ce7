-- Document 01, "Numbers given back", and document 02, Ask 1: the number of an order to a chip.
use Rattle.std.specs.Prelude.{ℕ, Bool, true, false, cond, not, ◌&&◌, ◌||◌, List, [], ◌∷◌, length, eqb, leb}
use Rattle.base_bits.specs.Tests.{every, unless}
use Rattle.base_numbers.specs.Numbers.{done, bad_order, bad_count, bad_start, bad_single, short_out, bad_top}
use Rattle.base_chip.specs.Registers.{configuration_a, configuration_b}
use Rattle.base_chip.specs.Chip.{is_newer, top_good}
use Rattle.base_chip.specs.declared.Chip.{Chip}
use Rattle.base_chip.specs.declared.Chip.TheVariants.{Newer, Older}
use Rattle.send_order.specs.Order.{Order, RunByte, is_read, is_single, run_bytes}
use Rattle.send_order.specs.Samples.{samples_of}

-- 0x0000 or 0x0001
abbrev pub is_configuration : RunByte → Bool
is_configuration p = eqb p.address configuration_a || eqb p.address configuration_b

-- 0x0000 or 0x0001 anywhere but last
unfoldable pub configures_early : List RunByte → Bool
configures_early [] = false
configures_early (p ∷ []) = false
configures_early (p ∷ q ∷ ps) = is_configuration p || configures_early (q ∷ ps)

-- k is 1 to 1,000, with k bytes for a write and none for a read
abbrev pub count_tests : Order → List Bool
count_tests o = leb 1 o.count ∷ leb o.count 1000 ∷ eqb (length o.bytes) (cond (is_read o) 0 o.count) ∷ []

-- the highest settings number that names settings of a chip: the older ones have LSB first alone
abbrev pub most_settings : Chip → ℕ
most_settings c = cond (is_newer c) 7 1

-- every address of a run is 0 to the top
unfoldable pub up_to : ℕ → List RunByte → Bool
up_to top [] = true
up_to top (p ∷ ps) = leb p.address top && up_to top ps

-- what number 9 asks: a start of at most 0x7FFF; on the older chips (document 02, Ask 1) a run that does not leave 0 to the top
abbrev pub addresses_good : Chip → Order → Bool
addresses_good Newer o = leb o.start 0x7FFF
addresses_good (Older part top) o = up_to top (run_bytes (Older part top) o)

-- The number of the sender: the lowest that applies, but 12, which only the older chips have, comes first.
unfoldable pub send_number : Chip → Order → ℕ → ℕ
send_number c o room =
    unless (top_good c) bad_top
    (unless (leb o.direction 1 && leb o.settings (most_settings c)) bad_order
    (unless (every (count_tests o)) bad_count
    (unless (addresses_good c o) bad_start
    (unless (not (is_single c o && not (is_read o) && configures_early (run_bytes c o))) bad_single
    (unless (leb (length (samples_of c o)) room) short_out
    done)))))
