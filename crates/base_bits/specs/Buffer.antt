-- What fills a lent buffer.
use Rattle.std.specs.Prelude.{ℕ, ◌+◌, ◌≡◌, List, ◌++◌, length, drop}
use Rattle.std.proofs.lemmas.List.Edits.{sets}

-- a buffer with bytes at its start, the rest unchanged
abbrev pub filled : List ℕ → List ℕ → List ℕ
filled bytes buffer = bytes ++ drop (length bytes) buffer

-- bytes are put into a buffer at a place, with the place after them
pub record Put (old : List ℕ) (at : ℕ) (bytes : List ℕ) (next : ℕ) (new : List ℕ) : Type 0 where
  pub next_place : next ≡ at + length bytes
  pub buffer : new ≡ sets old at bytes
