-- Document 01, "The map": where the bytes of a map stand.
use Rattle.std.specs.Prelude.{ℕ, ◌+◌, ◌*◌, ◌≡◌, cond, List, eqb, ltb}
use Rattle.base_bits.specs.Bytes.{byte_at, word_at}
use Rattle.map_format.specs.declared.Entry.{Entry}

-- the length of all that follows the length
abbrev pub length_of : List ℕ → ℕ
length_of m = word_at m 0

abbrev pub version_of : List ℕ → ℕ
version_of m = byte_at m 2

-- n, the number of registers
unfoldable pub count_of : List ℕ → ℕ
count_of m = word_at m 3

-- n is 16 to 8,192
abbrev pub least_count : ℕ
least_count = 16

abbrev pub most_count : ℕ
most_count = 8192

-- the bytes of the length itself, which it does not count
abbrev pub length_size : ℕ
length_size = 2

-- the bytes of the head: length, version and n
abbrev pub head_size : ℕ
head_size = 5

-- Document 02, Ask 3: version 2 has one flag byte after n
abbrev pub flagged_head_size : ℕ
flagged_head_size = 6

abbrev pub head_size_in : ℕ → ℕ
head_size_in version = cond (eqb version 2) flagged_head_size head_size

-- the flags; version 1 has none
abbrev pub flags_of : List ℕ → ℕ
flags_of m = cond (eqb (version_of m) 2) (byte_at m head_size) 0

-- the bytes of an entry: kind, mask and default
abbrev pub entry_size : ℕ
entry_size = 3

-- where the entries begin
unfoldable pub head_of : List ℕ → ℕ
head_of m = head_size_in (version_of m)

-- where the entry at an address begins
abbrev pub entry_start : List ℕ → ℕ → ℕ
entry_start m a = head_of m + entry_size * a

-- the bytes of the smallest and of the largest map
abbrev pub least_size : ℕ
least_size = head_size + entry_size * least_count

abbrev pub most_size : ℕ
most_size = flagged_head_size + entry_size * most_count

-- the bytes of the whole: the head and n entries
abbrev pub size_of : List ℕ → ℕ
size_of m = entry_start m (count_of m)

-- the kinds of register
abbrev pub blank : ℕ
blank = 0

abbrev pub read_only : ℕ
read_only = 1

abbrev pub plain : ℕ
plain = 2

abbrev pub buffered : ℕ
buffered = 3

abbrev pub control : ℕ
control = 4

-- the entry at an address of a map of n registers; beyond them a register is blank
unfoldable pub entry_at : List ℕ → ℕ → ℕ → Entry
entry_at m n a =
    cond (ltb a n)
    (record { kind = byte_at m (entry_start m a); mask = byte_at m (entry_start m a + 1); default = byte_at m (entry_start m a + 2) })
    (record { kind = blank; mask = 0; default = 0 })

-- entry i is the register at address i
abbrev pub register_at : List ℕ → ℕ → Entry
register_at m a = entry_at m (count_of m) a

-- Two maps with the same registers.
pub record SameRegisters (m m' : List ℕ) : Type 0 where
  pub same_count : count_of m ≡ count_of m'
  pub entries_agree : (a : ℕ) → register_at m a ≡ register_at m' a
