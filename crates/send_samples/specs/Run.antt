-- What the code hands on: how a run goes, and the samples of its parts.
use Rattle.std.specs.Prelude.{ℕ, Bool, cond, List, [], ◌∷◌, ◌++◌, get_or}
use Rattle.base_chip.specs.declared.Chip.{Chip}
use Rattle.send_samples.specs.declared.RunSettings.{RunSettings}
use Rattle.send_order.specs.Order.{Order, is_read, lsb_first, goes_up, is_single, run_from}
use Rattle.send_order.specs.Samples.{instruction_of, bits_of, byte_bits, run_bits, clocked}

-- the direction of an order, and what its settings say on a chip
abbrev pub order_run : Chip → Order → RunSettings
order_run c o = record { read = is_read o; lsb_first = lsb_first o; ascending = goes_up c o; single_instruction = is_single c o }

-- 0x00, and but for single instruction the instruction before all bytes, by its bits 14 to 0
abbrev pub opening_samples : RunSettings → ℕ → List ℕ
opening_samples r x = 0x00 ∷ clocked (cond r.single_instruction [] (bits_of r.lsb_first 16 (instruction_of r.read x)))

-- what goes out in the data bits of byte i
abbrev pub sent_byte : Bool → List ℕ → ℕ → ℕ
sent_byte read bytes i = cond read 0 (get_or bytes i 0)

-- the instruction of one byte: only with single instruction it has its own
abbrev pub own_samples : RunSettings → ℕ → List ℕ
own_samples r a = clocked (cond r.single_instruction (bits_of r.lsb_first 16 (instruction_of r.read a)) [])

-- the samples of one byte
abbrev pub byte_samples : RunSettings → ℕ → ℕ → List ℕ
byte_samples r a v = clocked (byte_bits r.single_instruction r.read r.lsb_first (record { address = a; byte = v }))

-- the samples of bytes from an address on
abbrev pub run_samples : RunSettings → ℕ → List ℕ → List ℕ
run_samples r a vs = clocked (run_bits r.single_instruction r.read r.lsb_first (run_from r.ascending a vs))

-- 0x00 and 0x01
abbrev pub closing_samples : List ℕ
closing_samples = 0x00 ∷ 0x01 ∷ []

-- all samples of a run of bytes from an address on, with bits 14 to 0 of the instruction before it
abbrev pub whole_samples : RunSettings → ℕ → ℕ → List ℕ → List ℕ
whole_samples r x a vs = opening_samples r x ++ (run_samples r a vs ++ closing_samples)
