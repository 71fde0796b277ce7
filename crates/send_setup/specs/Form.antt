-- Document 02, Ask 6: a list of orders as bytes, made and taken apart.
use Rattle.std.specs.Prelude.{ℕ, zero, suc, ◌+◌, ◌-◌, Bool, true, cond, ◌&&◌, List, [], ◌∷◌, ◌++◌, length, take, drop, eqb, leb}
use Rattle.base_bits.specs.Bytes.{byte_at, word_at, word_bytes}
use Rattle.base_bits.specs.Tests.{every}
use Rattle.send_order.specs.Order.{Order, order}

-- an order as it stands in a list: the settings number is one for all of them, and is not among its bytes
pub record ListedOrder : Type 0 where
  pub direction : ℕ
  pub start : ℕ
  pub count : ℕ
  pub bytes : List ℕ

abbrev pub listed : ℕ → ℕ → ℕ → List ℕ → ListedOrder
listed direction start count bytes = record { direction = direction; start = start; count = count; bytes = bytes }

-- the order to the sender, with the list's settings number
abbrev pub order_with : ℕ → ListedOrder → Order
order_with settings x = order x.direction settings x.start x.count x.bytes

-- Each order is a 16-bit length of what follows, a version byte 1, direction, 16-bit start, 16-bit count, data, all big-endian.
unfoldable pub listed_bytes : ListedOrder → List ℕ
listed_bytes x = word_bytes (6 + length x.bytes) ++ (1 ∷ x.direction ∷ (word_bytes x.start ++ (word_bytes x.count ++ x.bytes)))

unfoldable pub list_bytes : List ListedOrder → List ℕ
list_bytes [] = []
list_bytes (x ∷ xs) = listed_bytes x ++ list_bytes xs

-- the first order of a list: its length is 6 or more, the list does not end inside it, and its version is 1
abbrev pub whole_tests : List ℕ → List Bool
whole_tests l = leb 6 (word_at l 0) ∷ leb (2 + word_at l 0) (length l) ∷ eqb (byte_at l 2) 1 ∷ []

abbrev pub first_listed : List ℕ → ListedOrder
first_listed l = listed (byte_at l 3) (word_at l 4) (word_at l 6) (take (word_at l 0 - 6) (drop 8 l))

-- what comes after it
abbrev pub after_first : List ℕ → List ℕ
after_first l = drop (2 + word_at l 0) l

-- whole orders, up to k of them, and nothing after them
unfoldable pub list_good : ℕ → List ℕ → Bool
list_good zero l = eqb (length l) 0
list_good (suc k) l = cond (eqb (length l) 0) true (every (whole_tests l) && list_good k (after_first l))

-- the orders of such a list
unfoldable pub listed_of : ℕ → List ℕ → List ListedOrder
listed_of zero l = []
listed_of (suc k) l = cond (eqb (length l) 0) [] (first_listed l ∷ listed_of k (after_first l))
