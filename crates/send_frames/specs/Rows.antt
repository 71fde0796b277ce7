-- What the code hands on: how far a stretch goes, and how many bytes the orders of stretches take.
use Rattle.std.specs.Prelude.{ℕ, ◌+◌, cond, List, [], ◌∷◌, length, eqb}
use Rattle.send_frames.specs.Frames.{Stretch}

-- how many of some addresses go on from a without a gap
unfoldable pub neighbours : ℕ → List ℕ → ℕ
neighbours a [] = 0
neighbours a (b ∷ rest) = cond (eqb (a + 1) b) (1 + neighbours b rest) 0

-- eight bytes and the data for each
unfoldable pub stretches_size : List Stretch → ℕ
stretches_size [] = 0
stretches_size (s ∷ ss) = 8 + length s.bytes + stretches_size ss
