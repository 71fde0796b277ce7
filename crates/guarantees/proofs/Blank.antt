-- The map of 8,192 registers is good: its first sixteen entries compute, and a blank one is good at any place from 0x0010 on.
use mathlib.Core.Path.{◌≡◌, refl, sym}
use mathlib.Core.Bool.{Bool, true, false, cond}
use mathlib.Core.List.{List, [], ◌∷◌, ◌++◌}
use Prim.Native.Nat.{ℕ, zero, suc, ◌+◌, ◌-◌, ◌*◌, ◌≤◌}
use native.Mathlib.Omega.{arith}
use lib.ListN.{length, get_or, replicate}
use lib.Dec.{ltb}
use Rattle.base_bits.specs.Bytes.{byte_at}
use Rattle.map_format.specs.declared.Entry.{Entry}
use Rattle.map_format.specs.Format.{entry_start, count_of, head_of, entry_at, register_at}
use Rattle.map_format.proofs.Laws.{head_bounds}
use Rattle.map_test.specs.MapTest.{kind_rule, place_kinds, place_rule, entry_good, entries_good}
use Rattle.guarantees.specs.Known.{entries16, map8192}

repeated : (n i z : ℕ) → get_or (replicate n z) i z ≡ z
repeated zero i z = refl
repeated (suc n) zero z = refl
repeated (suc n) (suc i) z = repeated n i z

-- behind some bytes one byte is repeated
repeated_behind : (xs : List ℕ) (n i z : ℕ) → length xs ≤ i → get_or (xs ++ replicate n z) i z ≡ z
repeated_behind [] n i z h = repeated n i z
repeated_behind (x ∷ xs) n zero z h = absurd (omega arith)
repeated_behind (x ∷ xs) n (suc i) z h = repeated_behind xs n i z (omega arith)

abbrev blank_entry : Entry
blank_entry = record { kind = 0; mask = 0; default = 0 }

module _ (xs : List ℕ) (n : ℕ) (head : length xs ≡ 53) where
  abbrev m : List ℕ
  m = xs ++ replicate n 0

  blank_from_16 : (a : ℕ) → 16 ≤ a → register_at m a ≡ blank_entry
  unfolding entry_at
  blank_from_16 a h = go (ltb a (count_of m))
    where
      go : (b : Bool)
          → cond b (record { kind = byte_at m (entry_start m a); mask = byte_at m (entry_start m a + 1); default = byte_at m (entry_start m a + 2) }) blank_entry
          ≡ blank_entry
      go true =
          rw (
            repeated_behind xs n (entry_start m a) 0 (omega (arith, head_bounds m)),
            repeated_behind xs n (entry_start m a + 1) 0 (omega (arith, head_bounds m)),
            repeated_behind xs n (entry_start m a + 2) 0 (omega (arith, head_bounds m)),
          )
      go false = refl

  good_from_16 : (k a : ℕ) → 16 ≤ a → entries_good [] m a k ≡ true
  unfolding entries_good entry_good kind_rule place_rule
  good_from_16 zero a h = refl
  good_from_16 (suc k) a h = rw (blank_from_16 a h, good_from_16 k (a + 1) (omega arith))

pub first_sixteen_good : true ≡ entries_good place_kinds map8192 0 16
unfolding count_of head_of entry_at kind_rule place_rule entry_good entries_good
first_sixteen_good = refl

pub others_good : true ≡ entries_good [] map8192 16 (count_of map8192 - 16)
unfolding count_of
others_good = sym (good_from_16 (0x60 ∷ 0x03 ∷ 1 ∷ 0x20 ∷ 0x00 ∷ entries16) (3 * 8176) refl 8176 16 (omega arith))
