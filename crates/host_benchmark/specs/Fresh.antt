-- Opening and one call of the reader after it.
use Rattle.std.specs.Prelude.{ℕ, cond, List, eqb}
use Rattle.base_numbers.specs.Numbers.{done}
use Rattle.base_chip.specs.declared.Chip.{Chip}
use Rattle.reg_banks.specs.Banks.{Banks}
use Rattle.read_calls.specs.Calls.{Opening, Outcome, read_of}

-- what the two calls leave: the number, how many records, both banks, the words of touched registers, and the record buffer
pub record Left : Type 0 where
  pub number : ℕ
  pub count : ℕ
  pub banks : Banks
  pub touched : List ℕ
  pub records : List ℕ

abbrev pub left : ℕ → ℕ → Banks → List ℕ → List ℕ → Left
left number count b ws records = record { number = number; count = count; banks = b; touched = ws; records = records }

-- what the reader leaves, without the session
abbrev pub left_by : Outcome → Left
left_by o = left o.number o.count o.state.banks o.state.touched o.records

-- Reading on from what opening left; a refused opening is all.
unfoldable pub read_from : Chip → List ℕ → Opening → List ℕ → List ℕ → List ℕ → Left
read_from c m o ws samples records =
    cond (eqb o.number done)
    (left_by (read_of c m (record { session = o.session; banks = o.banks; touched = ws }) samples records))
    (left o.number 0 o.banks ws records)
