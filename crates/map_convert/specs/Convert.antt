-- Document 02, Ask 3: a map made one of the other version, and the calls that do it.
use Rattle.std.specs.Prelude.{ℕ, ◌+◌, ◌-◌, ◌*◌, cond, ◌||◌, List, [], ◌∷◌, ◌++◌, length, drop, eqb, leb}
use Rattle.base_bits.specs.Tests.{unless}
use Rattle.base_bits.specs.Buffer.{filled}
use Rattle.base_bits.specs.Bytes.{word_bytes}
use Rattle.base_numbers.specs.Numbers.{done, short_out, flag_lost}
use Rattle.base_chip.specs.declared.Chip.TheVariants.{Newer}
use Rattle.map_format.specs.Format.{version_of, count_of, flags_of, length_size, entry_size, head_size_in, head_of}
use Rattle.map_test.specs.MapTest.{map_number}

-- the length field of a map of n registers: 3 + 3n in version 1, 4 + 3n in version 2
abbrev pub length_in : ℕ → ℕ → ℕ
length_in version n = head_size_in version - length_size + entry_size * n

-- the head in a version: length, version and n, and in version 2 flags 0
unfoldable pub head_bytes : ℕ → ℕ → List ℕ
head_bytes version n = word_bytes (length_in version n) ++ (version ∷ (word_bytes n ++ cond (eqb version 2) (0 ∷ []) []))

-- The map in the wished version: that head and the entries. A map already of the wished version is copied.
unfoldable pub converted_to : ℕ → List ℕ → List ℕ
converted_to version m = cond (eqb (version_of m) version) m (head_bytes version (count_of m) ++ drop (head_of m) m)

-- Numbers 2 and 3 as the map test gives them; 13, after 3, for going back with bit 0 set; 11, after 13, for a buffer too short.
unfoldable pub convert_number : ℕ → List ℕ → ℕ → ℕ
convert_number version m room =
    unless (eqb (map_number Newer m) done) (map_number Newer m)
    (unless (eqb version 2 || eqb (flags_of m) 0) flag_lost
    (unless (leb (length (converted_to version m)) room) short_out
    done))

-- what a call leaves: the number, how many bytes it made, and the outgoing buffer
pub record Converting : Type 0 where
  pub number : ℕ
  pub count : ℕ
  pub bytes : List ℕ

abbrev pub converting : ℕ → ℕ → List ℕ → Converting
converting number count bytes = record { number = number; count = count; bytes = bytes }

-- A call of the converter, on a map and a lent buffer.
unfoldable pub convert_of : ℕ → List ℕ → List ℕ → Converting
convert_of version m buffer =
    cond (eqb (convert_number version m (length buffer)) done)
    (converting done (length (converted_to version m)) (filled (converted_to version m) buffer))
    (converting (convert_number version m (length buffer)) 0 buffer)
