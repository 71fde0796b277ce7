-- Document 02, Ask 10: each chip has its own ranges of shared bank memory, n bytes for each stage.
-- Everywhere the memory comes first, then n, then where the active range starts, then where the buffer range does.
use Rattle.std.specs.Prelude.{ℕ, ◌+◌, ◌≤◌, ◌≡◌, List, ◌⊎◌, length, take, drop}
use Rattle.std.proofs.lemmas.List.Edits.{sets}
use Rattle.map_format.specs.Format.{count_of}
use Rattle.base_chip.specs.declared.Chip.TheVariants.{Newer}
use Rattle.bus_settings.specs.declared.Settings.{Settings}
use Rattle.reg_banks.specs.Banks.{Banks, banks}
use Rattle.reg_write.specs.declared.Written.{Written}
use Rattle.reg_write.specs.Write.{written_of, write_banks}

-- Ask 10, "ranges of shared bank memory": the n bytes from a place on.
abbrev pub part : List ℕ → ℕ → ℕ → List ℕ
part mem n a = take n (drop a mem)

-- Ask 10, "its own ranges of shared bank memory": the banks that two ranges hold.
abbrev pub banks_in : List ℕ → ℕ → ℕ → ℕ → Banks
banks_in mem n a b = banks (part mem n a) (part mem n b)

-- Ask 10, "memory outside the ranges stays": the memory with banks put in two ranges, and all else as it was.
abbrev pub placed : List ℕ → ℕ → ℕ → Banks → List ℕ
placed mem a b k = sets (sets mem a k.active) b k.buffer

-- Ask 10, "ranges that overlap": these two, of n bytes each, do not.
abbrev pub Far : ℕ → ℕ → ℕ → Type 0
Far n a b = (a + n ≤ b) ⊎ (b + n ≤ a)

-- Ask 10, "ranges that overlap or leave the memory": the two ranges of a chip, with a byte for each register of the map, do neither.
pub record RangesWithin (m mem : List ℕ) (n a b : ℕ) : Type 0 where
  pub count : n ≡ count_of m
  pub active_fits : a + n ≤ length mem
  pub buffer_fits : b + n ≤ length mem
  pub apart : Far n a b

-- Ask 10, "as if it had been read alone": what a write of v to an address of one chip gives, its answer and the memory.
pub record WroteWithin (m before : List ℕ) (n a b : ℕ) (t : Settings) (address v : ℕ) (answer : Written) (after : List ℕ) : Type 0 where
  pub answer_is : answer ≡ written_of Newer m (banks_in before n a b) t address v
  pub memory_after : after ≡ placed before a b (write_banks Newer m (banks_in before n a b) address v)
