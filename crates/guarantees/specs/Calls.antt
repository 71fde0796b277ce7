-- Document 01, "The stopped run": the reader calls are one list on one map, of one chip. Each gets the session and banks as the last left
-- them, the first the given ones.
use Rattle.std.specs.Prelude.{ℕ, Bool, cond, List, [], ◌∷◌, ◌++◌, eqb}
use Rattle.base_numbers.specs.Numbers.{done}
use Rattle.base_chip.specs.declared.Chip.{Chip}
use Rattle.read_run.specs.Reading.{ReaderState}
use Rattle.read_calls.specs.Calls.{Outcome, read_of}

-- one call: its samples, and the record buffer lent to it
pub record Call : Type 0 where
  pub samples : List ℕ
  pub records : List ℕ

-- what a call leaves, by the definition that the reader's contract cites
abbrev pub outcome_of : Chip → List ℕ → ReaderState → Call → Outcome
outcome_of c m w call = read_of c m w call.samples call.records

abbrev pub is_done : Chip → List ℕ → ReaderState → Call → Bool
is_done c m w call = eqb (outcome_of c m w call).number done

-- the session and the banks after all calls
unfoldable pub after_calls : Chip → List ℕ → ReaderState → List Call → ReaderState
after_calls c m w [] = w
after_calls c m w (call ∷ more) = after_calls c m (outcome_of c m w call).state more

-- the samples of the calls that are done, joined
unfoldable pub joined : Chip → List ℕ → ReaderState → List Call → List ℕ
joined c m w [] = []
joined c m w (call ∷ more) = cond (is_done c m w call) call.samples [] ++ joined c m (outcome_of c m w call).state more
