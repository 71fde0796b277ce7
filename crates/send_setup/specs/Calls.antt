-- Document 02, Ask 6: the call that sends a whole setup. What it leaves is one value, as the sender's; a refusal leaves the buffer as
-- it was.
use Rattle.std.specs.Prelude.{ℕ, cond, List, [], ◌∷◌, map, length, eqb, leb}
use Rattle.base_bits.specs.Tests.{unless}
use Rattle.base_bits.specs.Buffer.{filled}
use Rattle.base_numbers.specs.Numbers.{done, short_out, bad_list, long_setup}
use Rattle.base_chip.specs.declared.Chip.TheVariants.{Newer}
use Rattle.send_order.specs.Order.{Order}
use Rattle.send_order.specs.Samples.{samples_of, all_samples}
use Rattle.send_order.specs.Number.{send_number}
use Rattle.send_samples.specs.Calls.{Sending, sending}
use Rattle.send_setup.specs.Form.{order_with, list_good, listed_of}

-- up to 64 orders
abbrev pub most_orders : ℕ
most_orders = 64

-- 65,536 samples in total
abbrev pub most_samples : ℕ
most_samples = 65536

-- the orders of a list, each with the one settings number
unfoldable pub orders_of : ℕ → List ℕ → List Order
orders_of settings list = map (order_with settings) (listed_of most_orders list)

-- the number of an order by itself, 7 to 10: it has just the room that it needs, so this is never 11
abbrev pub own_number : Order → ℕ
own_number o = send_number Newer o (length (samples_of Newer o))

-- The first bad order gives the number; 0 where each has passed.
unfoldable pub first_bad : List Order → ℕ
first_bad [] = 0
first_bad (o ∷ os) = cond (eqb (own_number o) 0) (first_bad os) (own_number o)

-- 15 for over 65,536 samples in total, before 11
abbrev pub room_number : ℕ → ℕ → ℕ
room_number total room = unless (leb total most_samples) long_setup (unless (leb total room) short_out done)

-- The number of a list: 14 before all else, then that of the first bad order, then 15 and 11.
unfoldable pub setup_number : ℕ → List ℕ → ℕ → ℕ
setup_number settings list room =
    unless (list_good most_orders list) bad_list
    (cond (eqb (first_bad (orders_of settings list)) 0)
    (room_number (length (all_samples Newer (orders_of settings list))) room)
    (first_bad (orders_of settings list)))

-- A call, on a list and a lent buffer: the recordings of the orders, joined.
unfoldable pub setup_of : ℕ → List ℕ → List ℕ → Sending
setup_of settings list buffer =
    cond (eqb (setup_number settings list (length buffer)) 0)
    (sending 0 (length (all_samples Newer (orders_of settings list))) (filled (all_samples Newer (orders_of settings list)) buffer))
    (sending (setup_number settings list (length buffer)) 0 buffer)
