-- Document 02, Ask 12: a map mended in its own bytes, the list of what was altered, and the call that does it.
use Rattle.std.specs.Prelude.{ℕ, zero, suc, ◌+◌, ◌≡◌, cond, List, [], ◌∷◌, ◌++◌, length, take, eqb, leb}
use Rattle.base_bits.specs.Tests.{every, unless}
use Rattle.base_bits.specs.Buffer.{filled, Put}
use Rattle.base_bits.specs.Bytes.{word_bytes}
use Rattle.base_numbers.specs.Numbers.{done, bad_map_form, short_records, bad_product}
use Rattle.map_format.specs.declared.Entry.{Entry}
use Rattle.map_format.specs.Format.{count_of, head_of, register_at}
use Rattle.map_test.specs.MapTest.{form_tests, product_good}
use Rattle.map_mend.specs.Entry.{mended_at, same_entry}

-- the three bytes of an entry
abbrev pub entry_bytes : Entry → List ℕ
entry_bytes e = e.kind ∷ e.mask ∷ e.default ∷ []

-- k entries mended, from address a on
unfoldable pub mended_from : List ℕ → ℕ → ℕ → List ℕ
mended_from m a zero = []
mended_from m a (suc k) = entry_bytes (mended_at a (register_at m a)) ++ mended_from m (a + 1) k

-- The mended map: the head is never altered, so version 2 keeps its flag byte.
unfoldable pub mended_map : List ℕ → List ℕ
mended_map m = take (head_of m) m ++ mended_from m 0 (count_of m)

-- the bytes that an altered entry has in the list
abbrev pub listed_size : ℕ
listed_size = 5

-- An entry that is altered: the address, big-endian, and the old three bytes.
unfoldable pub altered_at : ℕ → Entry → List ℕ
altered_at a e = cond (same_entry (mended_at a e) e) [] (word_bytes a ++ entry_bytes e)

-- those of k entries, from address a on
unfoldable pub altered_from : List ℕ → ℕ → ℕ → List ℕ
altered_from m a zero = []
altered_from m a (suc k) = altered_at a (register_at m a) ++ altered_from m (a + 1) k

-- The list of a map: each entry altered, by address.
abbrev pub altered_of : List ℕ → List ℕ
altered_of m = altered_from m 0 (count_of m)

-- Number 2 as before; 18, after 2, for a product number of 0x0000 or 0xFFFF; 6, after 18, for a list that does not fit.
unfoldable pub mend_number : List ℕ → ℕ → ℕ
mend_number m room =
    unless (every (form_tests m)) bad_map_form
    (unless (product_good m) bad_product
    (unless (leb (length (altered_of m)) room) short_records
    done))

-- what a call that is not refused does: the map is mended, and the list put at the start of its room
pub record MendedEntries (m list : List ℕ) (next : ℕ) (m' list' : List ℕ) : Type 0 where
  pub map_after : m' ≡ mended_map m
  pub listed : Put list 0 (altered_of m) next list'

-- what a call leaves: the number, how many bytes it listed, the map, and the list
pub record Mending : Type 0 where
  pub number : ℕ
  pub count : ℕ
  pub map : List ℕ
  pub list : List ℕ

abbrev pub mending : ℕ → ℕ → List ℕ → List ℕ → Mending
mending number count map list = record { number = number; count = count; map = map; list = list }

-- A call of mending, on a lent map and a lent list. A refusal leaves both as they were.
unfoldable pub mend_of : List ℕ → List ℕ → Mending
mend_of m list =
    cond (eqb (mend_number m (length list)) done)
    (mending done (length (altered_of m)) (mended_map m) (filled (altered_of m) list))
    (mending (mend_number m (length list)) 0 m list)
