-- Document 02, Ask 10: the call that reads several chips. What it leaves is one value; a refusal leaves all as it was.
use Rattle.std.specs.Prelude.{ℕ, cond, List, eqb, length}
use Rattle.base_bits.specs.Buffer.{filled}
use Rattle.base_numbers.specs.Numbers.{done}
use Rattle.several_chips.specs.declared.Member.{Member}
use Rattle.several_chips.specs.Samples.{samples_in}
use Rattle.several_chips.specs.State.{run_all, records_all, joined_records}
use Rattle.several_chips.specs.Members.{states_of, members_with, placed_all}
use Rattle.several_chips.specs.Numbers.{count_from, several_number}

-- the number, the chips, the bank memory, how many records, and the record buffer
pub record SeveralOutcome : Type 0 where
  pub number : ℕ
  pub members : List Member
  pub memory : List ℕ
  pub count : ℕ
  pub records : List ℕ

abbrev pub several_outcome : ℕ → List Member → List ℕ → ℕ → List ℕ → SeveralOutcome
several_outcome number ws mem count records = record { number = number; members = ws; memory = mem; count = count; records = records }

-- what the samples leave of chips and memory that are not refused
unfoldable pub done_of : List ℕ → List Member → List ℕ → List ℕ → List ℕ → SeveralOutcome
done_of m ws mem bytes records =
    several_outcome done
    (members_with ws (run_all m (states_of mem ws) (samples_in bytes)))
    (placed_all mem ws (run_all m (states_of mem ws) (samples_in bytes)))
    (count_from 0 ws (samples_in bytes))
    (filled (joined_records (records_all m (states_of mem ws) (samples_in bytes))) records)

-- A call on a map, a list of chips, the bank memory, the samples' bytes, and a lent record buffer.
unfoldable pub several_of : List ℕ → List Member → List ℕ → List ℕ → List ℕ → SeveralOutcome
several_of m ws mem bytes records =
    cond (eqb (several_number m ws (length mem) bytes (length records)) done)
    (done_of m ws mem bytes records)
    (several_outcome (several_number m ws (length mem) bytes (length records)) ws mem 0 records)
