-- Document 01, "The sender": an order, and the bytes of its run with their addresses.
use Rattle.std.specs.Prelude.{ℕ, Bool, cond, ◌&&◌, List, [], ◌∷◌, replicate, eqb}
use Rattle.base_bits.specs.Bits.{bit_at}
use Rattle.base_chip.specs.Chip.{is_newer}
use Rattle.base_chip.specs.declared.Chip.{Chip}
use Rattle.bus_settings.specs.Settings.{next_address}
use Rattle.send_order.specs.declared.Order as declared

-- as it is given: a direction (0 write, 1 read), a settings number, a start address, a count and the data
pub record Order : Type 0 where
  pub direction : ℕ
  pub settings : ℕ
  pub start : ℕ
  pub count : ℕ
  pub bytes : List ℕ

abbrev pub order : ℕ → ℕ → ℕ → ℕ → List ℕ → Order
order direction settings start count bytes = record {
  direction = direction;
  settings = settings;
  start = start;
  count = count;
  bytes = bytes;
}

-- the order that the code hands on, with the data that is lent beside it
abbrev pub with_data : declared.Order → List ℕ → Order
with_data o bytes = order o.direction o.settings o.start o.count bytes

abbrev pub is_read : Order → Bool
is_read o = eqb o.direction 1

-- the settings number: 1 LSB first, 2 ascending, 4 single instruction, added
abbrev pub lsb_first : Order → Bool
lsb_first o = bit_at o.settings 0

abbrev pub ascending : Order → Bool
ascending o = bit_at o.settings 1

abbrev pub single_instruction : Order → Bool
single_instruction o = bit_at o.settings 2

-- Document 02, Ask 1: on the older chips highest bit first goes down in address, lowest first up.
abbrev pub goes_up : Chip → Order → Bool
goes_up c o = cond (is_newer c) (ascending o) (lsb_first o)

-- Only the newer chips have single instruction.
abbrev pub is_single : Chip → Order → Bool
is_single c o = is_newer c && single_instruction o

-- one byte of a run
pub record RunByte : Type 0 where
  pub address : ℕ
  pub byte : ℕ

-- Document 01, "The stopped run": the start, then one up or down each time, modulo 0x8000.
unfoldable pub run_from : Bool → ℕ → List ℕ → List RunByte
run_from up a [] = []
run_from up a (v ∷ vs) = record { address = a; byte = v } ∷ run_from up (next_address up a) vs

-- what goes out in the data bits: the data of a write; of a read as many zeros as it counts
abbrev pub sent_of : Bool → ℕ → List ℕ → List ℕ
sent_of read count bytes = cond read (replicate count 0) bytes

abbrev pub sent_bytes : Order → List ℕ
sent_bytes o = sent_of (is_read o) o.count o.bytes

abbrev pub run_bytes : Chip → Order → List RunByte
run_bytes c o = run_from (goes_up c o) o.start (sent_bytes o)
