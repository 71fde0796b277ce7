-- Document 02, Ask 7: the touched registers, a bit each in lent 64-bit words.
use Rattle.std.specs.Prelude.{ℕ, zero, suc, ◌+◌, ◌/◌, ◌%◌, ◌^◌, Bool, cond, List, [], ◌∷◌, ◌++◌, length, get_or, set, drop, replicate, eqb, leb}
use Rattle.std.specs.Int.Bits.{bit_or}

-- the k low bits of a word, the lowest first
unfoldable pub word_bits : ℕ → ℕ → List Bool
word_bits zero x = []
word_bits (suc k) x = eqb (x % 2) 1 ∷ word_bits k (x / 2)

-- Document 02, Ask 7: the bits by address, so that the bit of address a is element a.
unfoldable pub touched_bits : List ℕ → List Bool
touched_bits [] = []
touched_bits (x ∷ xs) = word_bits 64 x ++ touched_bits xs

-- Document 02, Ask 7: a write with effect 1 or 2 sets the bit of its address, bit a mod 64 of word a div 64.
unfoldable pub touched_words : List ℕ → ℕ → List ℕ
touched_words ws a = set ws (a / 64) (bit_or (get_or ws (a / 64) 0) (2 ^ (a % 64)))

-- Document 02, Ask 7: a mark clears all words.
unfoldable pub cleared_words : List ℕ → List ℕ
cleared_words ws = replicate (length ws) 0

-- how many bits of a list are set
unfoldable pub trues : List Bool → ℕ
trues [] = 0
trues (b ∷ bs) = cond b 1 0 + trues bs

-- the place of the first one that is set; the length if there is none
unfoldable pub first_true : List Bool → ℕ
first_true [] = 0
first_true (b ∷ bs) = cond b 0 (1 + first_true bs)

-- the first one that is set from a place on, that one included; the length if there is none
unfoldable pub next_true : List Bool → ℕ → ℕ
next_true bs a = cond (leb (length bs) a) (length bs) (a + first_true (drop a bs))
