-- Document 02, Ask 9: the writes that ask for the slow setting, which is gone.
use Rattle.std.specs.Prelude.{ℕ, zero, suc, ◌+◌, ◌/◌, Bool, ◌&&◌, List, length, drop, eqb}
use Rattle.base_bits.specs.Bits.{bit_at, bit_of}
use Rattle.base_bits.specs.Bytes.{byte_at, word_at}
use Rattle.base_sizes.specs.Sizes.{record_size}
use Rattle.base_chip.specs.Registers.{configuration_b}
use Rattle.bus_settings.specs.Bits.{slow_bit}

-- whether the record at the start of a list is a write to 0x0001 with bit 4 of the byte set
unfoldable pub asks_slow : List ℕ → Bool
asks_slow r = eqb (byte_at r 0) 1 && eqb (word_at r 1) configuration_b && bit_at (byte_at r 3) slow_bit

-- how many of n records are
unfoldable pub slow_in : ℕ → List ℕ → ℕ
slow_in zero records = 0
slow_in (suc n) records = bit_of (asks_slow records) + slow_in n (drop record_size records)

-- of all the records in a list
abbrev pub slow_of : List ℕ → ℕ
slow_of records = slow_in (length records / record_size) records
