-- Document 02, Ask 7: from a mark on, exactly the registers recorded with effect 1 or 2 have their bit.
use Rattle.std.specs.Prelude.{ℕ, ◌+◌, ◌*◌, ◌≡◌, Bool, false, cond, ◌&&◌, ◌||◌, List, [], ◌∷◌, ◌++◌, eqb, get_or}
use Rattle.reg_touched.specs.Touched.{touched_bits, cleared_words}
use Rattle.base_chip.specs.declared.Chip.{Chip}
use Rattle.reg_write.specs.Write.{touches_on}
use Rattle.read_run.specs.Reading.{ReaderState, records_of}
use Rattle.guarantees.specs.Calls.{Call, outcome_of, is_done, after_calls}

-- whether one of some records, seven bytes each, is of a write to an address with effect 1 or 2
unfoldable pub named : ℕ → List ℕ → Bool
named a [] = false
named a (k ∷ []) = false
named a (k ∷ h ∷ []) = false
named a (k ∷ h ∷ l ∷ []) = false
named a (k ∷ h ∷ l ∷ v ∷ []) = false
named a (k ∷ h ∷ l ∷ v ∷ x ∷ []) = false
named a (k ∷ h ∷ l ∷ v ∷ x ∷ e ∷ []) = false
named a (k ∷ h ∷ l ∷ v ∷ x ∷ e ∷ d ∷ more) = (eqb k 1 && eqb (h * 256 + l) a && touches_on e) || named a more

-- the records of the calls that are done, joined
unfoldable pub recorded_by : Chip → List ℕ → ReaderState → List Call → List ℕ
recorded_by c m w [] = []
recorded_by c m w (call ∷ more) = cond (is_done c m w call) (records_of c m w call.samples) [] ++ recorded_by c m (outcome_of c m w call).state more

-- whether the register at an address has its bit
abbrev pub is_touched : ReaderState → ℕ → Bool
is_touched w a = get_or (touched_bits w.touched) a false

-- Over any list of calls on one map that lend the words on, refused calls anywhere: a bit is set if it was, or if a record names it.
abbrev pub TouchedBy : Type 0
TouchedBy =
    (c : Chip) (m : List ℕ) (w : ReaderState) (calls : List Call) (a : ℕ)
    → is_touched (after_calls c m w calls) a ≡ (is_touched w a || named a (recorded_by c m w calls))

-- So from a mark on the records alone tell.
abbrev pub TouchedSinceMark : Type 0
TouchedSinceMark =
    (c : Chip) (m : List ℕ) (w : ReaderState) (words : List ℕ) (calls : List Call) (a : ℕ) → w.touched ≡ cleared_words words
    → is_touched (after_calls c m w calls) a ≡ named a (recorded_by c m w calls)
