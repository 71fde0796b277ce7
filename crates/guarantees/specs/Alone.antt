-- Document 02, Ask 10: each chip of a list ends, with its own records in order, as if it had been read alone, its select as CSB, but for
-- the 2; and no select line alters another chip's end or own records in order.
use Rattle.std.specs.Prelude.{ℕ, ◌+◌, ◌<◌, ◌≤◌, ◌≡◌, Bool, cond, ◌&&◌, List, [], ◌∷◌, ◌++◌, map, ◌⊎◌, eqb, length, get_or, set}
use Rattle.base_chip.specs.declared.Chip.TheVariants.{Newer}
use Rattle.read_records.specs.Records.{record_of}
use Rattle.read_run.specs.Reading.{ReaderState, event_at, reader_state_after, run_of, records_of}
use Rattle.several_chips.specs.declared.Member.{Member}
use Rattle.several_chips.specs.Samples.{Sample, samples_in, all_seen_by}
use Rattle.several_chips.specs.State as several
use Rattle.several_chips.specs.State.{State, contended_now, state_after, given, is_read_byte, numbered, records_all, joined_records}
use Rattle.several_chips.specs.Members.{state_of, states_of}
use Rattle.several_chips.specs.Numbers.{Range, ranges_of}
use Rattle.several_chips.specs.Calls.{several_of}

-- a chip that is read alone: its session and its banks, with any words of touched registers
abbrev pub alone : State → List ℕ → ReaderState
alone s words = record { session = s.session; banks = s.banks; touched = words }

-- the records that start with a chip's number
unfoldable pub own : ℕ → List (List ℕ) → List (List ℕ)
own k [] = []
own k (r ∷ rs) = cond (eqb (get_or r 0 0) k) (r ∷ own k rs) (own k rs)

-- the records of a chip that is read alone, one by one
unfoldable pub record_list : List ℕ → ReaderState → List ℕ → List (List ℕ)
record_list m w [] = []
record_list m w (y ∷ ys) =
    given (event_at Newer w y) (record_of Newer m w.banks w.session.port.settings (event_at Newer w y)) ++ record_list m (reader_state_after Newer m w y) ys

-- for each of them, whether it is a read byte with another select low at one of its edges
unfoldable pub contended : List ℕ → ℕ → State → List Sample → List Bool
contended m k s [] = []
contended m k s (x ∷ xs) =
    given (several.chip_event k s x) (is_read_byte (several.chip_event k s x) && contended_now k s x) ++ contended m k (state_after m k s x) xs

-- records with the chip's number, and 2 where there was contention
unfoldable pub with_number : ℕ → List Bool → List (List ℕ) → List (List ℕ)
with_number k [] rs = []
with_number k (c ∷ cs) [] = []
with_number k (c ∷ cs) (r ∷ rs) = numbered k c r ∷ with_number k cs rs

-- a byte that lies in none of the ranges
abbrev pub Outside : ℕ → List Range → Type 0
Outside j [] = Unit {0}
Outside j (r ∷ rs) = ((j < r.start) ⊎ (r.start + r.size ≤ j)) × Outside j rs

-- what a call leaves of chip k, and of the memory that no chip has
pub record ReadAlone (m : List ℕ) (ws : List Member) (mem bytes old : List ℕ) (words : List ℕ) (k : ℕ) (w after : Member) (memory : List ℕ) : Type 0 where
  pub session : (state_of memory after).session ≡ (run_of Newer m (alone (state_of mem w) words) (all_seen_by k (samples_in bytes))).session
  pub banks : (state_of memory after).banks ≡ (run_of Newer m (alone (state_of mem w) words) (all_seen_by k (samples_in bytes))).banks
  pub records :
      own k (records_all m (states_of mem ws) (samples_in bytes))
      ≡ with_number k (contended m k (state_of mem w) (samples_in bytes)) (record_list m (alone (state_of mem w) words) (all_seen_by k (samples_in bytes)))
  pub one_by_one :
      joined_records (record_list m (alone (state_of mem w) words) (all_seen_by k (samples_in bytes)))
      ≡ records_of Newer m (alone (state_of mem w) words) (all_seen_by k (samples_in bytes))
  pub outside : (j : ℕ) → Outside j (ranges_of ws) → get_or memory j 0 ≡ get_or mem j 0

-- The promise, of every call that is not refused and every chip of its list.
abbrev pub AsIfAlone : Type 0
AsIfAlone =
    (m : List ℕ) (ws : List Member) (mem bytes old words : List ℕ) (k : ℕ) (d : Member)
    → (several_of m ws mem bytes old).number ≡ 0 → k < length ws
    → ReadAlone m ws mem bytes old words k (get_or ws k d) (get_or (several_of m ws mem bytes old).members k d) (several_of m ws mem bytes old).memory

-- a record without the byte that says whether the bytes agree, or 2
abbrev pub blotted : List ℕ → List ℕ
blotted r = set r 6 0

-- Two recordings that chip k sees alike, whatever the other selects do: it ends alike, with the same own records but for the 2.
pub record SameFor (m : List ℕ) (ss : List State) (xs ys : List Sample) (k : ℕ) (d : State) : Type 0 where
  pub session : (get_or (several.run_all m ss xs) k d).session ≡ (get_or (several.run_all m ss ys) k d).session
  pub banks : (get_or (several.run_all m ss xs) k d).banks ≡ (get_or (several.run_all m ss ys) k d).banks
  pub records : map blotted (own k (records_all m ss xs)) ≡ map blotted (own k (records_all m ss ys))

abbrev pub NoOtherSelect : Type 0
NoOtherSelect =
    (m : List ℕ) (ss : List State) (xs ys : List Sample) (k : ℕ) (d : State) → k < length ss → all_seen_by k xs ≡ all_seen_by k ys → SameFor m ss xs ys k d
