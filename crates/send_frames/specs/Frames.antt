-- Document 02, Ask 13: the orders that are made of single registers and their bytes.
use Rattle.std.specs.Prelude.{ℕ, ◌+◌, ◌-◌, Bool, cond, List, [], ◌∷◌, map, reverse, length, eqb}
use Rattle.send_order.specs.Order.{RunByte}
use Rattle.send_setup.specs.Form.{ListedOrder, listed}

-- what is wanted: each address of a list with its byte
unfoldable pub wanted_of : List ℕ → List ℕ → List RunByte
wanted_of [] bytes = []
wanted_of (a ∷ addresses) [] = []
wanted_of (a ∷ addresses) (v ∷ bytes) = record { address = a; byte = v } ∷ wanted_of addresses bytes

-- neighbours without a gap, by their lowest address and their bytes from there up
pub record Stretch : Type 0 where
  pub lowest : ℕ
  pub bytes : List ℕ

abbrev pub stretch : ℕ → List ℕ → Stretch
stretch lowest bytes = record { lowest = lowest; bytes = bytes }

-- a register put before stretches above it: into the first of them where it is its neighbour, else alone
unfoldable pub joined_to : RunByte → List Stretch → List Stretch
joined_to p [] = stretch p.address (p.byte ∷ []) ∷ []
joined_to p (s ∷ ss) =
    cond (eqb (p.address + 1) s.lowest)
    (stretch p.address (p.byte ∷ s.bytes) ∷ ss)
    (stretch p.address (p.byte ∷ []) ∷ s ∷ ss)

-- the stretches of what is wanted, from the lowest up
unfoldable pub stretches_of : List RunByte → List Stretch
stretches_of [] = []
stretches_of (p ∷ ps) = joined_to p (stretches_of ps)

-- Ascending, a run starts at the lowest register of a stretch, else at the highest, and its data runs backwards.
abbrev pub start_of : Bool → Stretch → ℕ
start_of up s = cond up s.lowest (s.lowest + length s.bytes - 1)

abbrev pub data_of : Bool → List ℕ → List ℕ
data_of up bytes = cond up bytes (reverse bytes)

-- the write order of a stretch, in Ask 6's form
abbrev pub frame_of : Bool → Stretch → ListedOrder
frame_of up s = listed 0 (start_of up s) (length s.bytes) (data_of up s.bytes)

-- The orders made: one for each stretch.
unfoldable pub frames_of : Bool → List RunByte → List ListedOrder
frames_of up ps = map (frame_of up) (stretches_of ps)
