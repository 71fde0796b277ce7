-- Document 02, Ask 10: a sample of several chips is two bytes, the selects and then the three other lines, in their former bits.
use Rattle.std.specs.Prelude.{ℕ, ◌+◌, ◌-◌, ◌^◌, Bool, true, not, ◌&&◌, List, [], ◌∷◌, map, eqb, leb}
use Rattle.std.specs.Int.Bits.{bit_or}
use Rattle.base_bits.specs.Bits.{bit_at, bit_of}

-- the selects, bit i for chip i, low selects; and the lines
pub record Sample : Type 0 where
  pub selects : ℕ
  pub lines : ℕ

abbrev pub sample : ℕ → ℕ → Sample
sample selects lines = record { selects = selects; lines = lines }

-- bytes as samples, two by two
unfoldable pub samples_in : List ℕ → List Sample
samples_in [] = []
samples_in (selects ∷ []) = []
samples_in (selects ∷ lines ∷ more) = sample selects lines ∷ samples_in more

-- the sample of one chip that is read alone: the three lines, and its own select as CSB
abbrev pub seen_by : ℕ → Sample → ℕ
seen_by i x = bit_of (bit_at x.selects i) + x.lines

-- all samples, as chip i sees them
abbrev pub all_seen_by : ℕ → List Sample → List ℕ
all_seen_by i xs = map (seen_by i) xs

-- the select of a chip other than i is low; those of absent chips are high
abbrev pub other_low : ℕ → Sample → Bool
other_low i x = not (eqb (bit_or x.selects (2 ^ i)) 0xFF)

-- the selects of absent chips are high, and of the lines bit 0 and bits 4 to 7 are zero
abbrev pub sample_good : ℕ → Sample → Bool
sample_good chips x = leb (2 ^ 8 - 2 ^ chips) x.selects && (leb x.lines 15 && not (bit_at x.lines 0))

unfoldable pub all_good : ℕ → List Sample → Bool
all_good chips [] = true
all_good chips (x ∷ xs) = sample_good chips x && all_good chips xs
