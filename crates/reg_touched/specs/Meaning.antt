-- Document 02, Ask 7: what the definitions mean, for every list of words.
use Rattle.std.specs.Prelude.{ℕ, ◌*◌, ◌/◌, ◌%◌, ◌<◌, ◌≤◌, ◌≡◌, Bool, true, false, List, length, get_or, set, replicate}
use Rattle.base_bits.specs.Bits.{bit_at}
use Rattle.reg_touched.specs.Touched.{touched_bits, touched_words, cleared_words, next_true}

-- Document 02, Ask 7: address a at bit a mod 64 of word a div 64.
abbrev pub BitOfAddress : Type 0
BitOfAddress = (ws : List ℕ) (a : ℕ) → get_or (touched_bits ws) a false ≡ bit_at (get_or ws (a / 64) 0) (a % 64)

-- Document 02, Ask 7: a touch sets the bit of its address, and no other.
abbrev pub TouchSetsOne : Type 0
TouchSetsOne = (ws : List ℕ) (a : ℕ) → touched_bits (touched_words ws a) ≡ set (touched_bits ws) a true

-- Document 02, Ask 7: after a mark no register is touched.
abbrev pub MarkClearsAll : Type 0
MarkClearsAll = (ws : List ℕ) → touched_bits (cleared_words ws) ≡ replicate (64 * length ws) false

-- an address that a search from another one gives: its bit is set, unless it lies past the last, and none is between the two
pub record NextFrom (bits : List Bool) (from found : ℕ) : Type 0 where
  pub most : found ≤ length bits
  pub touched : found < length bits → get_or bits found false ≡ true
  pub none_between : (b : ℕ) → from ≤ b → b < found → get_or bits b false ≡ false
  pub not_before : from ≤ length bits → from ≤ found

-- Document 02, Ask 7: the next one from a given address on, or 64 times the number of words if none.
abbrev pub SearchFindsNext : Type 0
SearchFindsNext = (ws : List ℕ) (a : ℕ) → NextFrom (touched_bits ws) a (next_true (touched_bits ws) a) × (length (touched_bits ws) ≡ 64 * length ws)
