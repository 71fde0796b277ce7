-- Document 01, "The map" and "Numbers given back": the map test, 0 done, 2 or 3; and number 12, of the older parts (document 02, Ask 1).
use Rattle.std.specs.Prelude.{ℕ, zero, suc, ◌+◌, ◌-◌, ◌*◌, ◌≤◌, ◌≡◌, Bool, true, false, cond, not, ◌&&◌, ◌||◌, List, [], ◌∷◌, length, get_or, eqb, leb}
use Rattle.base_bits.specs.Tests.{every, unless}
use Rattle.base_numbers.specs.Numbers.{done, bad_map_form, bad_map_entry, bad_top}
use Rattle.base_chip.specs.declared.Part.{Part}
use Rattle.base_chip.specs.declared.Part.TheVariants.{Ad9557, Ad9508}
use Rattle.base_chip.specs.declared.Chip.{Chip}
use Rattle.base_chip.specs.declared.Chip.TheVariants.{Newer, Older}
use Rattle.base_chip.specs.Chip.{top_good}
use Rattle.map_format.specs.declared.Entry.{Entry}
use Rattle.map_format.specs.Format.{length_of, version_of, count_of, least_count, most_count, length_size, head_size, size_of, flags_of}
use Rattle.map_format.specs.Format.{blank, read_only, plain, buffered, control, register_at}

-- Number 2: fewer than 5 bytes; length, version or n wrong; a slice that is not as long as the map; or a reserved flag (document 02, Ask 3).
abbrev pub form_tests : List ℕ → List Bool
form_tests m =
    leb head_size (length m)
    ∷ eqb (length_size + length_of m) (size_of m)
    ∷ (eqb (version_of m) 1 || eqb (version_of m) 2)
    ∷ leb least_count (count_of m)
    ∷ leb (count_of m) most_count
    ∷ eqb (length m) (size_of m)
    ∷ leb (flags_of m) 1
    ∷ []

-- What good form gives: n is 16 to 8,192, and all the entries are there.
pub record Formed (m : List ℕ) : Type 0 where
  pub least : least_count ≤ count_of m
  pub most : count_of m ≤ most_count
  pub whole : length m ≡ size_of m

-- The entry rule: what each kind asks of mask and default.
unfoldable pub kind_rule : Entry → Bool
kind_rule e =
    cond (eqb e.kind blank) (eqb e.mask 0 && eqb e.default 0)
    (cond (eqb e.kind read_only) (eqb e.mask 0)
    (cond (eqb e.kind plain) true
    (cond (eqb e.kind buffered) true
    (cond (eqb e.kind control) (eqb e.mask 0 && eqb e.default 0)
    false))))

-- a place where any kind but control may stand
abbrev pub free : ℕ
free = 9

-- The kinds that the places of a newer chip ask for, from 0x0000 to 0x000F.
abbrev pub place_kinds : List ℕ
place_kinds =
    control ∷ control ∷ free ∷ read_only ∷ read_only ∷ read_only ∷ read_only ∷ blank
    ∷ free ∷ free ∷ plain ∷ read_only ∷ read_only ∷ read_only ∷ blank ∷ control ∷ []

-- Document 02, Ask 1: no place rules but control at exactly 0x0000, 0x0005 and, for the AD9557, 0x0004.
abbrev pub older_kinds : Part → List ℕ
older_kinds Ad9557 = control ∷ free ∷ free ∷ free ∷ control ∷ control ∷ []
older_kinds Ad9508 = control ∷ free ∷ free ∷ free ∷ free ∷ control ∷ []

-- the table that a chip's maps go by
abbrev pub kinds_of : Chip → List ℕ
kinds_of Newer = place_kinds
kinds_of (Older part top) = older_kinds part

-- The kind that an address asks for on a newer chip; from 0x0010 on all places are free.
abbrev pub place_kind : ℕ → ℕ
place_kind address = get_or place_kinds address free

-- The kind is what its place asks for.
abbrev pub as_asked : ℕ → ℕ → Bool
as_asked place kind = cond (eqb place free) (not (eqb kind control)) (eqb kind place)

-- The kind fits its place in a table; beyond its end all places are free.
unfoldable pub place_rule : List ℕ → ℕ → ℕ → Bool
place_rule kinds address kind = as_asked (get_or kinds address free) kind

-- One entry, at its address.
unfoldable pub entry_good : List ℕ → ℕ → Entry → Bool
entry_good kinds address e = kind_rule e && place_rule kinds address e.kind

-- k entries, from address a on
unfoldable pub entries_good : List ℕ → List ℕ → ℕ → ℕ → Bool
entries_good kinds m a zero = true
entries_good kinds m a (suc k) = entry_good kinds a (register_at m a) && entries_good kinds m (a + 1) k

-- where the product number is: 0x0004 low, 0x0005 high
abbrev pub product_low_place : ℕ
product_low_place = 0x0004

abbrev pub product_high_place : ℕ
product_high_place = 0x0005

abbrev pub product_of : List ℕ → ℕ
product_of m = (register_at m product_high_place).default * 256 + (register_at m product_low_place).default

abbrev pub product_good : List ℕ → Bool
product_good m = not (eqb (product_of m) 0x0000) && not (eqb (product_of m) 0xFFFF)

-- the vendor bytes at 0x000C and 0x000D, and scratch at 0x000A with its mask
abbrev pub vendor_low_place : ℕ
vendor_low_place = 0x000C

abbrev pub vendor_low : ℕ
vendor_low = 0x56

abbrev pub vendor_high_place : ℕ
vendor_high_place = 0x000D

abbrev pub vendor_high : ℕ
vendor_high = 0x04

abbrev pub scratch_place : ℕ
scratch_place = 0x000A

abbrev pub scratch_mask : ℕ
scratch_mask = 0xFF

-- The further rules on single bytes: the vendor bytes, the product number, and the mask of scratch. The older parts have none.
abbrev pub further_tests : Chip → List ℕ → List Bool
further_tests Newer m =
    eqb (register_at m vendor_low_place).default vendor_low
    ∷ eqb (register_at m vendor_high_place).default vendor_high
    ∷ product_good m
    ∷ eqb (register_at m scratch_place).mask scratch_mask
    ∷ []
further_tests (Older part top) m = []

-- Number 3: an entry rule or a further rule broken.
abbrev pub rules_good : Chip → List ℕ → Bool
rules_good c m = entries_good (kinds_of c) m 0 (count_of m) && every (further_tests c m)

-- The number of a map on a chip, whatever the top: the lowest that applies.
unfoldable pub map_number : Chip → List ℕ → ℕ
map_number c m =
    unless (every (form_tests m)) bad_map_form
    (unless (rules_good c m) bad_map_entry
    done)

-- Document 02, Ask 1: the top of an older part is one that it can have, and n less 1. A newer chip has none.
abbrev pub top_fits : Chip → List ℕ → Bool
top_fits Newer m = true
top_fits (Older part top) m = top_good (Older part top) && eqb top (count_of m - 1)

-- The number of the map test: 2, 3, and then 12.
unfoldable pub map_test_number : Chip → List ℕ → ℕ
map_test_number c m =
    unless (eqb (map_number c m) done) (map_number c m)
    (unless (top_fits c m) bad_top
    done)
