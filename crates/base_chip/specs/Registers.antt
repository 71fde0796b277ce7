-- Document 01, "What a whole byte does": the control registers, by the names that the standard has for them.
use Rattle.std.specs.Prelude.{ℕ}

-- 0x0000 of a newer chip, interface configuration A
abbrev pub configuration_a : ℕ
configuration_a = 0x0000

-- 0x0001, interface configuration B
abbrev pub configuration_b : ℕ
configuration_b = 0x0001

-- 0x000F, the transfer
abbrev pub transfer_register : ℕ
transfer_register = 0x000F

-- Document 02, Ask 1: 0x0000 of an older chip, which sets the bit order
abbrev pub serial_control : ℕ
serial_control = 0x0000

-- Document 02, Ask 1: 0x0004 of the AD9557, which says what stage is read
abbrev pub readback_control : ℕ
readback_control = 0x0004

-- Document 02, Ask 1: 0x0005, the transfer of an older chip
abbrev pub older_transfer : ℕ
older_transfer = 0x0005
