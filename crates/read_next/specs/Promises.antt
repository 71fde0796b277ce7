-- What the search for the next record promises.
use Rattle.std.specs.Prelude.{ℕ, ◌≡◌, List}
use Rattle.base_chip.specs.declared.Chip.{Chip}
use Rattle.bus_session.specs.declared.Port.{Port}
use Rattle.read_run.specs.Reading.{record_count}
use Rattle.read_next.specs.NextRecord.{taken_of, first_of}

-- how many samples are read, and how many records they give
pub record SearchAfter (c : Chip) (s : Port) (xs : List ℕ) (at count : ℕ) : Type 0 where
  pub samples : at ≡ taken_of c s xs
  pub records : count ≡ record_count c s (first_of c s xs)
