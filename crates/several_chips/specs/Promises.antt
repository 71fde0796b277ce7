-- Document 02, Ask 10, in steps: what the turn of one chip at one sample asks and leaves.
use Rattle.std.specs.Prelude.{ℕ, ◌+◌, ◌*◌, ◌<◌, ◌≤◌, ◌≡◌, true, cond, List, [], ◌∷◌, ltb, length, get_or}
use Rattle.std.proofs.lemmas.List.Edits.{sets}
use Rattle.map_format.specs.Format.{count_of}
use Rattle.reg_ranges.specs.Ranges.{RangesWithin, placed}
use Rattle.several_chips.specs.declared.Member.{Member}
use Rattle.several_chips.specs.declared.Turn.{Turn}
use Rattle.several_chips.specs.declared.Stepped.{Stepped}
use Rattle.several_chips.specs.Samples.{Sample, sample}
use Rattle.several_chips.specs.State.{State, state_after, record_at, joined_records}
use Rattle.several_chips.specs.Members.{state_of, member_with, sound_member}

-- the sample at a place
abbrev pub sample_at : List ℕ → ℕ → Sample
sample_at bytes j = sample (get_or bytes (2 * j) 0) (get_or bytes (2 * j + 1) 0)

-- the turn of a chip at a sample, with the place of the next record
abbrev pub turn : ℕ → ℕ → ℕ → Turn
turn sample chip at = record { sample = sample; chip = chip; at = at }

-- the turn after it: that of the next chip, or at the next sample that of the first
abbrev pub next_turn : ℕ → Turn → ℕ → Turn
next_turn chips t at = cond (ltb (t.chip + 1) chips) (turn t.sample (t.chip + 1) at) (turn (t.sample + 1) 0 at)

-- the same, after so many bytes of records
abbrev pub turn_after : ℕ → Turn → ℕ → Turn
turn_after chips t size = next_turn chips t (t.at + size)

-- the chip after its turn
abbrev pub state_after_turn : List ℕ → Member → List ℕ → List ℕ → Turn → State
state_after_turn m w mem bytes t = state_after m t.chip (state_of mem w) (sample_at bytes t.sample)

-- the bytes of the record of its turn, or none
abbrev pub turn_record : List ℕ → Member → List ℕ → List ℕ → Turn → List ℕ
turn_record m w mem bytes t = joined_records (record_at m t.chip (state_of mem w) (sample_at bytes t.sample))

-- before a turn: a sound chip whose ranges fit the map and lie apart in the memory, a good sample, and room for its record
pub record Stepping (m : List ℕ) (w : Member) (mem bytes old : List ℕ) (t : Turn) : Type 0 where
  pub sound : sound_member w ≡ true
  pub active_size : w.active_length ≡ count_of m
  pub buffer_size : w.buffer_length ≡ count_of m
  pub within : RangesWithin m mem (count_of m) w.active_start w.buffer_start
  pub number : t.chip < 8
  pub sample : 2 * t.sample + 1 < length bytes
  pub lines : (sample_at bytes t.sample).lines ≤ 15
  pub room : t.at + length (turn_record m w mem bytes t) ≤ length old

-- after it: the chip, its banks in the memory, its record, and the next turn
pub record HasStepped (m : List ℕ) (w : Member) (chips : ℕ) (mem bytes old : List ℕ) (t : Turn) (r : Stepped) (memory new : List ℕ) : Type 0 where
  pub member_after : r.member ≡ member_with w (state_after_turn m w mem bytes t)
  pub memory_after : memory ≡ placed mem w.active_start w.buffer_start (state_after_turn m w mem bytes t).banks
  pub records_after : new ≡ sets old t.at (turn_record m w mem bytes t)
  pub turn_is : r.turn ≡ turn_after chips t (length (turn_record m w mem bytes t))

-- what every list of chips has, since the struct holds bytes
abbrev pub AllBytes : List Member → Type 0
AllBytes [] = Unit {0}
AllBytes (w ∷ ws) = ((i : ℕ) → get_or w.session i 0 < 256) × AllBytes ws
