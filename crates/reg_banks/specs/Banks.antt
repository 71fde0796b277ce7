-- Document 01, "Registers and session": two lent banks of n bytes hold the active and the buffer stage.
use Rattle.std.specs.Prelude.{ℕ, zero, suc, ◌+◌, ◌≡◌, cond, List, [], ◌∷◌, length, get_or, eqb}
use Rattle.map_format.specs.Format.{count_of, register_at, buffered}

pub record Banks : Type 0 where
  pub active : List ℕ
  pub buffer : List ℕ

abbrev pub banks : List ℕ → List ℕ → Banks
banks active buffer = record { active = active; buffer = buffer }

-- Banks that fit a map: each has n bytes.
pub record Mapped (m : List ℕ) (b : Banks) : Type 0 where
  pub active_size : length b.active ≡ count_of m
  pub buffer_size : length b.buffer ≡ count_of m

-- k defaults, from address a on
unfoldable pub defaults_from : List ℕ → ℕ → ℕ → List ℕ
defaults_from m a zero = []
defaults_from m a (suc k) = (register_at m a).default ∷ defaults_from m (a + 1) k

-- Opening, and a soft reset: each default in both banks.
unfoldable pub default_banks : List ℕ → Banks
default_banks m = banks (defaults_from m 0 (count_of m)) (defaults_from m 0 (count_of m))

-- the active bytes from address a on, where each of kind 3 takes its buffer byte
unfoldable pub transfer_from : List ℕ → ℕ → List ℕ → List ℕ → List ℕ
transfer_from m a [] buffer = []
transfer_from m a (x ∷ active) buffer =
    cond (eqb (register_at m a).kind buffered) (get_or buffer a 0) x ∷ transfer_from m (a + 1) active buffer

-- Document 01, "What a whole byte does", 0x000F: every kind 3 active byte takes its buffer byte.
unfoldable pub transferred : List ℕ → Banks → Banks
transferred m b = banks (transfer_from m 0 b.active b.buffer) b.buffer
