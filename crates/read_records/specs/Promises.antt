-- What taking an event asks, and what it leaves.
use Rattle.std.specs.Prelude.{ℕ, ◌+◌, ◌*◌, ◌≤◌, ◌≡◌, Bool, cond, List, eqb, length}
use Rattle.std.proofs.lemmas.List.Edits.{sets}
use Rattle.reg_touched.specs.Touched.{touched_words}
use Rattle.base_chip.specs.declared.Chip.{Chip}
use Rattle.map_format.specs.Format.{count_of}
use Rattle.bus_settings.specs.declared.Settings.{Settings}
use Rattle.bus_session.specs.declared.Event.{Event}
use Rattle.bus_session.specs.declared.Event.TheVariants.{Aborted, Ended}
use Rattle.reg_banks.specs.Banks.{Banks, Mapped}
use Rattle.reg_write.specs.Write.{touches_on}
use Rattle.read_records.specs.declared.EventOutcome.{EventOutcome}
use Rattle.read_records.specs.BanksAfter.{banks_after, armed_after, touched_after}
use Rattle.read_records.specs.Records.{record_of}

-- the words after a write with the effect of this number
abbrev pub touched_on : List ℕ → ℕ → ℕ → List ℕ
touched_on ws a effect = cond (touches_on effect) (touched_words ws a) ws

-- the end of a frame, by the bits that it breaks off
abbrev pub end_of : ℕ → ℕ → Bool → Event
end_of address bits is_data_piece = cond (eqb bits 0) Ended (Aborted address bits is_data_piece)

-- before an event is taken: the map fits the banks, each register has its bit, and there is room for the record
pub record EventBefore (c : Chip) (m : List ℕ) (b : Banks) (ws : List ℕ) (t : Settings) (e : Event) (old : List ℕ) (at : ℕ) : Type 0 where
  pub mapped : Mapped m b
  pub bits : count_of m ≤ 64 * length ws
  pub room : at + length (record_of c m b t e) ≤ length old

-- after it: both banks, the words, whether the session is armed, the record in its place, and the place after it
pub record EventAfter
    (c : Chip) (m : List ℕ) (k : Bool) (b : Banks) (ws : List ℕ) (t : Settings) (e : Event) (old : List ℕ) (at : ℕ)
    (after : Banks) (words new : List ℕ) (took : EventOutcome) : Type 0 where
  pub next_banks : after ≡ banks_after c m k b e
  pub words_after : words ≡ touched_after c m ws b e
  pub next_armed : took.armed ≡ armed_after c m k b e
  pub records_after : new ≡ sets old at (record_of c m b t e)
  pub next_place : took.at ≡ at + length (record_of c m b t e)
