-- Document 02, Ask 12: what holds of a map that was mended.
use Rattle.std.specs.Prelude.{ℕ, zero, suc, ◌/◌, ◌≡◌, List, take, drop}
use Rattle.std.proofs.lemmas.List.Edits.{sets}
use Rattle.base_bits.specs.Bytes.{word_at}
use Rattle.map_format.specs.Format.{entry_size, entry_start}
use Rattle.base_chip.specs.declared.Chip.TheVariants.{Newer}
use Rattle.map_test.specs.MapTest.{map_number}
use Rattle.map_mend.specs.Mend.{listed_size, mending, mend_of}

-- The outcome is accepted by the map test.
abbrev pub MendedAccepted : Type 0
MendedAccepted = (m list : List ℕ) → (mend_of m list).number ≡ 0 → map_number Newer (mend_of m list).map ≡ 0

-- A good map is returned as it was with an empty list.
abbrev pub GoodKept : Type 0
GoodKept = (m list : List ℕ) → map_number Newer m ≡ 0 → mend_of m list ≡ mending 0 0 m list

-- Mending twice is mending once: again, with any list, nothing is altered or listed.
abbrev pub MendedOnce : Type 0
MendedOnce =
    (m list again : List ℕ) → (mend_of m list).number ≡ 0 → mend_of (mend_of m list).map again ≡ mending 0 0 (mend_of m list).map again

-- The first k entries of a list, put back at their addresses.
unfoldable pub restored : ℕ → List ℕ → List ℕ → List ℕ
restored zero list m = m
restored (suc k) list m = restored k (drop listed_size list) (sets m (entry_start m (word_at list 0)) (take entry_size (drop 2 list)))

-- The list and the mended map give the old map back. So does what a refusal leaves.
abbrev pub GivenBack : Type 0
GivenBack = (m list : List ℕ) → restored ((mend_of m list).count / listed_size) (mend_of m list).list (mend_of m list).map ≡ m
