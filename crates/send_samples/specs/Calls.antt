-- Document 01, "Numbers given back": the sender's call. What it leaves is one value; a refusal leaves the buffer as it was.
use Rattle.std.specs.Prelude.{ℕ, cond, List, length, eqb}
use Rattle.base_bits.specs.Buffer.{filled}
use Rattle.base_numbers.specs.Numbers.{done}
use Rattle.base_chip.specs.declared.Chip.{Chip}
use Rattle.send_order.specs.Order.{Order}
use Rattle.send_order.specs.Samples.{samples_of}
use Rattle.send_order.specs.Number.{send_number}

-- what a call of the sender leaves: the number, how many samples, and the outgoing buffer
pub record Sending : Type 0 where
  pub number : ℕ
  pub count : ℕ
  pub samples : List ℕ

abbrev pub sending : ℕ → ℕ → List ℕ → Sending
sending number count samples = record { number = number; count = count; samples = samples }

-- A call of the sender, for a chip, on an order and a lent buffer.
unfoldable pub send_of : Chip → Order → List ℕ → Sending
send_of c o buffer =
    cond (eqb (send_number c o (length buffer)) done)
    (sending done (length (samples_of c o)) (filled (samples_of c o) buffer))
    (sending (send_number c o (length buffer)) 0 buffer)
