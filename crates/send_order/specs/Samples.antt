-- Document 01, "The sender": the samples of an order.
use Rattle.std.specs.Prelude.{ℕ, zero, suc, ◌+◌, ◌-◌, ◌*◌, Bool, cond, List, [], ◌∷◌, ◌++◌, leb}
use Rattle.base_bits.specs.Bits.{bit_at, bit_of}
use Rattle.base_chip.specs.Chip.{is_newer}
use Rattle.base_chip.specs.declared.Chip.{Chip}
use Rattle.send_order.specs.Order.{Order, RunByte, is_read, lsb_first, is_single, run_bytes}

-- the lowest w bits of x, the highest of them first
unfoldable pub high_first : ℕ → ℕ → List Bool
high_first zero x = []
high_first (suc w) x = bit_at x w ∷ high_first w x

-- w bits of x, from bit i up
unfoldable pub low_first : ℕ → ℕ → ℕ → List Bool
low_first i zero x = []
low_first i (suc w) x = bit_at x i ∷ low_first (i + 1) w x

-- w bits in the order in which they travel: all sixteen bits of an instruction are turned, not each byte of it
unfoldable pub bits_of : Bool → ℕ → ℕ → List Bool
bits_of lsb w x = cond lsb (low_first 0 w x) (high_first w x)

-- the instruction: bit 15 is 1 for read, bits 14 to 0 are the address
abbrev pub instruction_of : Bool → ℕ → ℕ
instruction_of read a = cond read (a + 0x8000) a

-- Document 02, Ask 1: the two length bits of k bytes. The sender counts k up to 3 and streams more.
abbrev pub length_bits : ℕ → ℕ
length_bits k = cond (leb k 3) (k - 1) 3

-- bits 14 to 0 of the instruction before a run of k bytes: on the older chips two length bits and 13 address bits
abbrev pub length_and_address : Chip → ℕ → ℕ → ℕ
length_and_address c k a = cond (is_newer c) a (length_bits k * 0x2000 + a)

-- one byte: with single instruction, its own instruction goes before it
unfoldable pub byte_bits : Bool → Bool → Bool → RunByte → List Bool
byte_bits single read lsb p = cond single (bits_of lsb 16 (instruction_of read p.address)) [] ++ bits_of lsb 8 p.byte

unfoldable pub run_bits : Bool → Bool → Bool → List RunByte → List Bool
run_bits single read lsb [] = []
run_bits single read lsb (p ∷ ps) = byte_bits single read lsb p ++ run_bits single read lsb ps

-- the bits of an order: but for single instruction, one instruction goes before all bytes
unfoldable pub order_bits : Chip → Order → List Bool
order_bits c o =
    cond (is_single c o) [] (bits_of (lsb_first o) 16 (instruction_of (is_read o) (length_and_address c o.count o.start)))
    ++ run_bits (is_single c o) (is_read o) (lsb_first o) (run_bytes c o)

-- for each bit b, 4b then 4b + 2
unfoldable pub clocked : List Bool → List ℕ
clocked [] = []
clocked (b ∷ bs) = (4 * bit_of b) ∷ (4 * bit_of b + 2) ∷ clocked bs

-- 0x00; the bits; then 0x00 and 0x01
unfoldable pub samples_of : Chip → Order → List ℕ
samples_of c o = 0x00 ∷ (clocked (order_bits c o) ++ (0x00 ∷ 0x01 ∷ []))

-- the samples of several orders, joined
unfoldable pub all_samples : Chip → List Order → List ℕ
all_samples c [] = []
all_samples c (o ∷ os) = samples_of c o ++ all_samples c os
