-- Document 02, Ask 3: what holds of a map that the converter made.
use Rattle.std.specs.Prelude.{ℕ, ◌≡◌, true, List}
use Rattle.std.proofs.Math.Pow.{are_bytes}
use Rattle.base_chip.specs.declared.Chip.TheVariants.{Newer}
use Rattle.map_format.specs.Format.{version_of, flags_of, SameRegisters}
use Rattle.map_test.specs.MapTest.{map_number}
use Rattle.map_convert.specs.Convert.{converted_to, convert_number}

-- the versions that there is a call for
pub data Wished : ℕ → Type 0 where
  to_1 : Wished 1
  to_2 : Wished 2

-- It is a good map of the wished version, with the registers and the flags of the map that it was made of.
pub record IsConverted (version : ℕ) (m m' : List ℕ) : Type 0 where
  pub good : map_number Newer m' ≡ 0
  pub wished : version_of m' ≡ version
  pub same_registers : SameRegisters m m'
  pub same_flags : flags_of m' ≡ flags_of m

abbrev pub ConvertedMaps : Type 0
ConvertedMaps =
    (version : ℕ) → Wished version → (m : List ℕ) (room : ℕ) → are_bytes m ≡ true → convert_number version m room ≡ 0
    → IsConverted version m (converted_to version m)

-- Back again, every byte is as it was: from 1 to 2 and back, and from 2 with flags 0 to 1 and back.
abbrev pub BackAgain : Type 0
BackAgain =
    (version wished : ℕ) → Wished version → Wished wished → (m : List ℕ) → are_bytes m ≡ true → map_number Newer m ≡ 0
    → version_of m ≡ version → flags_of m ≡ 0 → converted_to version (converted_to wished m) ≡ m
