-- Document 02, Ask 3: both versions are the same map to opening and reading.
use Rattle.std.specs.Prelude.{ℕ, ◌≡◌, true, List}
use Rattle.std.proofs.Math.Pow.{are_bytes}
use Rattle.map_format.specs.Format.{flags_of, SameRegisters}
use Rattle.map_test.specs.MapTest.{map_number}
use Rattle.map_convert.specs.Convert.{converted_to, convert_number}
use Rattle.map_convert.specs.Made.{Wished}
use Rattle.base_chip.specs.declared.Chip.{Chip}
use Rattle.base_chip.specs.declared.Chip.TheVariants.{Newer}
use Rattle.reg_banks.specs.Banks.{Banks}
use Rattle.read_run.specs.Reading.{ReaderState}
use Rattle.read_calls.specs.Calls.{open_of, read_of}

-- Every call leaves the same with either map: number, session, both banks and records.
pub record ReadAlike (c : Chip) (m m' : List ℕ) : Type 0 where
  pub opened : (b : Banks) → open_of c m b ≡ open_of c m' b
  pub read : (w : ReaderState) (samples records : List ℕ) → read_of c m w samples records ≡ read_of c m' w samples records

-- Maps with the same registers and flags, which the map test gives the same number, are read alike.
abbrev pub SameMap : Type 0
SameMap = (c : Chip) (m m' : List ℕ) → SameRegisters m m' → flags_of m ≡ flags_of m' → map_number c m ≡ map_number c m' → ReadAlike c m m'

-- So are a newer chip's map and what the converter makes of it.
abbrev pub ConvertedAlike : Type 0
ConvertedAlike =
    (version : ℕ) → Wished version → (m : List ℕ) (room : ℕ) → are_bytes m ≡ true → convert_number version m room ≡ 0
    → ReadAlike Newer m (converted_to version m)
