-- Document 02, Ask 13: the call that makes the orders. What it leaves is one value; a refusal leaves the buffer as it was.
use Rattle.std.specs.Prelude.{ℕ, Bool, true, cond, not, ◌&&◌, ◌||◌, List, [], ◌∷◌, length, eqb, ltb, leb}
use Rattle.base_bits.specs.Tests.{every, unless}
use Rattle.base_bits.specs.Buffer.{filled}
use Rattle.base_numbers.specs.Numbers.{done, short_out, bad_registers}
use Rattle.base_chip.specs.Registers.{configuration_a, configuration_b, transfer_register}
use Rattle.send_setup.specs.Form.{list_bytes}
use Rattle.send_frames.specs.Frames.{wanted_of, frames_of}

-- up to 1,000 addresses
abbrev pub most_registers : ℕ
most_registers = 1000

-- each is above the one before it
unfoldable pub rising : List ℕ → Bool
rising [] = true
rising (a ∷ []) = true
rising (a ∷ b ∷ rest) = ltb a b && rising (b ∷ rest)

-- up to 0x7FFF, and no control register
abbrev pub may_be_listed : ℕ → Bool
may_be_listed a = leb a 0x7FFF && not (eqb a configuration_a || eqb a configuration_b || eqb a transfer_register)

unfoldable pub all_may_be_listed : List ℕ → Bool
all_may_be_listed [] = true
all_may_be_listed (a ∷ rest) = may_be_listed a && all_may_be_listed rest

-- the list is not empty, not long and in order; its registers may be listed; there are as many bytes as addresses
abbrev pub registers_tests : List ℕ → List ℕ → List Bool
registers_tests addresses bytes =
    leb 1 (length addresses)
    ∷ leb (length addresses) most_registers
    ∷ rising addresses
    ∷ all_may_be_listed addresses
    ∷ eqb (length bytes) (length addresses)
    ∷ []

-- The bytes that are made: the list of orders that Ask 6 takes.
abbrev pub frames_bytes : Bool → List ℕ → List ℕ → List ℕ
frames_bytes up addresses bytes = list_bytes (frames_of up (wanted_of addresses bytes))

-- Number 19 for what is listed; 11, after 19, for no room for the orders.
unfoldable pub frames_number : Bool → List ℕ → List ℕ → ℕ → ℕ
frames_number up addresses bytes room =
    unless (every (registers_tests addresses bytes)) bad_registers
    (unless (leb (length (frames_bytes up addresses bytes)) room) short_out
    done)

-- what a call leaves: the number, how many bytes it made, and the outgoing buffer
pub record Making : Type 0 where
  pub number : ℕ
  pub count : ℕ
  pub bytes : List ℕ

abbrev pub making : ℕ → ℕ → List ℕ → Making
making number count bytes = record { number = number; count = count; bytes = bytes }

-- A call, on the wished direction, what is listed and a lent buffer.
unfoldable pub make_of : Bool → List ℕ → List ℕ → List ℕ → Making
make_of up addresses bytes buffer =
    cond (eqb (frames_number up addresses bytes (length buffer)) done)
    (making done (length (frames_bytes up addresses bytes)) (filled (frames_bytes up addresses bytes) buffer))
    (making (frames_number up addresses bytes (length buffer)) 0 buffer)
