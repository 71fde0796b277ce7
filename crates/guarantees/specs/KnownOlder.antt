-- Document 02, Ask 1: worked examples of the older chips, as one table.
use Rattle.std.specs.Prelude.{ℕ, ◌≡◌, List, [], ◌∷◌, ◌++◌, length, take, drop}
use Rattle.base_numbers.specs.Numbers.{done, bad_map_entry, bad_start, bad_top}
use Rattle.base_chip.specs.declared.Part.TheVariants.{Ad9557, Ad9508}
use Rattle.base_chip.specs.declared.Chip.{Chip}
use Rattle.base_chip.specs.declared.Chip.TheVariants.{Older}
use Rattle.map_test.specs.MapTest.{map_test_number}
use Rattle.read_run.specs.Reading.{records_of}
use Rattle.send_order.specs.Order.{Order, order}
use Rattle.send_order.specs.Samples.{order_bits, samples_of, clocked}
use Rattle.send_order.specs.Number.{send_number}
use Rattle.guarantees.specs.Known.{opened, bits_of_digits}

-- an AD9508 whose highest address is 0x000F
abbrev pub ad9508 : Chip
ad9508 = Older Ad9508 0x000F

-- its map: control at 0x0000 and 0x0005, a buffered register at 0x0007, plain ones at 0x000A, 0x000B and 0x000F
abbrev pub map9508 : List ℕ
map9508 =
    0x00 ∷ 0x33 ∷ 1 ∷ 0 ∷ 16
    ∷ 4 ∷ 0 ∷ 0 ∷ 2 ∷ 0xFF ∷ 0 ∷ 0 ∷ 0 ∷ 0 ∷ 1 ∷ 0 ∷ 0x05 ∷ 0 ∷ 0 ∷ 0 ∷ 4 ∷ 0 ∷ 0 ∷ 1 ∷ 0 ∷ 0x01 ∷ 3 ∷ 0xFF ∷ 0
    ∷ 0 ∷ 0 ∷ 0 ∷ 0 ∷ 0 ∷ 0 ∷ 2 ∷ 0xFF ∷ 0 ∷ 2 ∷ 0xFF ∷ 0 ∷ 0 ∷ 0 ∷ 0 ∷ 0 ∷ 0 ∷ 0 ∷ 0 ∷ 0 ∷ 0 ∷ 2 ∷ 0xFF ∷ 0 ∷ []

-- a write, highest bit first: it goes down
abbrev pub write_down : ℕ → List ℕ → Order
write_down a bytes = order 0 0 a (length bytes) bytes

-- the records of some samples after opening
abbrev pub older_records : List ℕ → List ℕ
older_records xs = records_of ad9508 map9508 (opened map9508) xs

-- the record of a plain register that held 0 and takes v
abbrev pub plain_record : ℕ → ℕ → List ℕ
plain_record a v = 1 ∷ 0x00 ∷ a ∷ v ∷ v ∷ 1 ∷ v ∷ []

-- samples with the select raised and lowered again behind the first s
abbrev pub stalled_at : ℕ → List ℕ → List ℕ
stalled_at s xs = take s xs ++ (0x01 ∷ 0x01 ∷ 0x00 ∷ drop s xs)

pub record OlderResults : Type 0 where
  pub good : map_test_number ad9508 map9508 ≡ done
  pub other_top : map_test_number (Older Ad9508 0x0010) map9508 ≡ bad_top
  pub other_part : map_test_number (Older Ad9557 0x000F) map9508 ≡ bad_map_entry
  -- the instruction of two bytes: write, length 01, address N; then the bytes for N and N less 1
  pub two_bytes_bits : take 16 (order_bits ad9508 (write_down 0x000B (0x22 ∷ 0x33 ∷ [])))
      ≡ bits_of_digits (0 ∷ 0 ∷ 1 ∷ 0 ∷ 0 ∷ 0 ∷ 0 ∷ 0 ∷ 0 ∷ 0 ∷ 0 ∷ 0 ∷ 1 ∷ 0 ∷ 1 ∷ 1 ∷ [])
  pub two_bytes : older_records (samples_of ad9508 (write_down 0x000B (0x22 ∷ 0x33 ∷ []))) ≡ plain_record 0x0B 0x22 ++ plain_record 0x0A 0x33
  -- after the count bits are passed over: eight more are no byte, and nothing is broken off
  pub counted :
      older_records
      (take 49 (samples_of ad9508 (write_down 0x000B (0x22 ∷ []))) ++ (clocked (bits_of_digits (1 ∷ 1 ∷ 1 ∷ 1 ∷ 1 ∷ 1 ∷ 1 ∷ 1 ∷ 1 ∷ [])) ++ (0x01 ∷ [])))
      ≡ plain_record 0x0B 0x22
  -- four bytes stream, length 11
  pub streamed_bits : take 16 (order_bits ad9508 (write_down 0x000F (1 ∷ 2 ∷ 3 ∷ 4 ∷ [])))
      ≡ bits_of_digits (0 ∷ 1 ∷ 1 ∷ 0 ∷ 0 ∷ 0 ∷ 0 ∷ 0 ∷ 0 ∷ 0 ∷ 0 ∷ 0 ∷ 1 ∷ 1 ∷ 1 ∷ 1 ∷ [])
  -- the select may rise before the first byte and before the second, and the run resumes
  pub stalls_first : older_records (stalled_at 33 (samples_of ad9508 (write_down 0x000B (0x22 ∷ 0x33 ∷ [])))) ≡ plain_record 0x0B 0x22 ++ plain_record 0x0A 0x33
  pub stalls_second : older_records (stalled_at 49 (samples_of ad9508 (write_down 0x000B (0x22 ∷ 0x33 ∷ [])))) ≡ plain_record 0x0B 0x22 ++ plain_record 0x0A 0x33
  -- elsewhere a rise resets the port: inside the instruction
  pub no_stall : older_records (take 17 (samples_of ad9508 (write_down 0x000B (0x22 ∷ []))) ++ (0x01 ∷ [])) ≡ 3 ∷ 0x00 ∷ 0x00 ∷ 8 ∷ 0 ∷ 0 ∷ 0 ∷ []
  -- lowest bit first goes up, to the top and no further
  pub over_the_top : send_number ad9508 (order 0 1 0x000F 2 (1 ∷ 2 ∷ [])) 1000 ≡ bad_start
  pub to_the_top : send_number ad9508 (order 0 1 0x000E 2 (1 ∷ 2 ∷ [])) 1000 ≡ done
  -- highest bit first goes down, to address 0 and no further
  pub below_zero : send_number ad9508 (write_down 0x0000 (1 ∷ 2 ∷ [])) 1000 ≡ bad_start
  pub to_zero : send_number ad9508 (write_down 0x0001 (1 ∷ 2 ∷ [])) 1000 ≡ done
