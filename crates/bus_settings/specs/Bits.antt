-- Document 01, "What a whole byte does": the bits of the control registers.
use Rattle.std.specs.Prelude.{ℕ}

-- configuration A has each setting twice, so that a byte is its own mirror; of each pair the higher bit is named: 7 (and 0) soft reset
abbrev pub reset_bit : ℕ
reset_bit = 7

-- 6 (and 1) LSB first; document 02, Ask 1: 6 of an older chip's serial control too
abbrev pub lsb_first_bit : ℕ
lsb_first_bit = 6

-- 5 (and 2) ascending
abbrev pub ascending_bit : ℕ
ascending_bit = 5

-- 4 (and 3) SDO active
abbrev pub sdo_active_bit : ℕ
sdo_active_bit = 4

-- configuration B: 7 single instruction
abbrev pub single_instruction_bit : ℕ
single_instruction_bit = 7

-- 5 buffer readback
abbrev pub buffer_readback_bit : ℕ
buffer_readback_bit = 5

-- Document 02, Ask 9: 4 slow, which is no setting
abbrev pub slow_bit : ℕ
slow_bit = 4

-- the transfer, of every chip: 0
abbrev pub transfer_bit : ℕ
transfer_bit = 0

-- Document 02, Ask 1: the AD9557's readback control: 0 buffer readback
abbrev pub readback_control_bit : ℕ
readback_control_bit = 0
