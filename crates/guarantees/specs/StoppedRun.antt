-- Demand 3, the stopped run: one claim about the whole list of calls.
use Rattle.std.specs.Prelude.{ℕ, ◌<◌, ◌≡◌, Bool, true, false, List, [], ◌∷◌, ◌++◌, length, take}
use Rattle.base_chip.specs.declared.Chip.{Chip}
use Rattle.base_chip.specs.Chip.{is_newer}
use Rattle.bus_settings.specs.declared.Settings.{Settings}
use Rattle.bus_session.specs.declared.Phase.TheVariants.{Data}
use Rattle.bus_session.specs.declared.Port.{Port}
use Rattle.bus_session.specs.declared.Session.{Session}
use Rattle.bus_session.specs.State.{resting, may_stall}
use Rattle.bus_session.specs.Step.{csb_of}
use Rattle.read_run.specs.Reading.{ReaderState}
use Rattle.send_order.specs.Order.{Order, is_read}
use Rattle.send_order.specs.Samples.{samples_of}
use Rattle.guarantees.specs.AtRest.{AtRest, Accepted}
use Rattle.guarantees.specs.Calls.{Call, after_calls, joined}
use Rattle.guarantees.specs.Book.{whole_run, write_all, book_of, touched_book}

-- A write run that the sender accepts, for a session at rest, and a sample that raises the select. Document 01 asks for runs clear of 0x0000
-- and 0x0001; document 02, Ask 11: they may pass through them, also where they wrap, and through 0x0000 and 0x0004 of an older chip.
pub record Run (c : Chip) (m : List ℕ) (w : ReaderState) (o : Order) (room raise : ℕ) : Type 0 where
  pub start : AtRest c m w o
  pub accepted : Accepted c o room
  pub write : is_read o ≡ false
  pub sample : raise < 16
  pub raised : csb_of raise ≡ true

-- the samples to be read: the first s of the run, and the raise
abbrev pub stopped_samples : Chip → Order → ℕ → ℕ → List ℕ
stopped_samples c o s raise = take s (samples_of c o) ++ (raise ∷ [])

-- For any such run, stopped after any number s of its samples, and any list of calls whose done ones, joined, are those samples and
-- the raise (refused calls anywhere): both stages at the end are the book's, byte for byte, and, document 02, Ask 7, so are the words of
-- touched registers, whatever they were at the start.
abbrev pub StoppedRun : Type 0
StoppedRun =
    (c : Chip) (m : List ℕ) (w : ReaderState) (o : Order) (room s raise : ℕ) (calls : List Call)
    → Run c m w o room raise
    → joined c m w calls ≡ stopped_samples c o s raise
    → ((after_calls c m w calls).banks ≡ book_of c m o s w.banks) × ((after_calls c m w calls).touched ≡ touched_book c m o s w.banks w.touched)

-- Document 02, Ask 4: before the raise, which a run that is sent whole ends with itself, both stages are the book's without the rise.
abbrev pub BeforeRaise : Type 0
BeforeRaise =
    (c : Chip) (m : List ℕ) (w : ReaderState) (o : Order) (room s raise : ℕ) (calls : List Call)
    → Run c m w o room raise
    → s < length (samples_of c o) → joined c m w calls ≡ take s (samples_of c o)
    → (after_calls c m w calls).banks ≡ write_all c m (whole_run c o s) w.banks

-- Document 02, Ask 1: where a stop leaves a session, which is armed in no case. It is at rest; or, on an older chip and before a data byte of a
-- counted run, it stalls: the select is high, and the next frame resumes the run.
pub data Stops (c : Chip) : Session → Type 0 where
  rests : (sclk : Bool) (t : Settings) → Stops c (record { port = resting sclk t; armed = false })
  stalls : (p : Port) → is_newer c ≡ false → p.csb ≡ true → p.phase ≡ Data → may_stall p ≡ true → Stops c (record { port = p; armed = false })

-- So the claim above is of both stages alone: an older chip's next order may find a run that is not over.
abbrev pub StoppedSession : Type 0
StoppedSession =
    (c : Chip) (m : List ℕ) (w : ReaderState) (o : Order) (room s raise : ℕ) (calls : List Call)
    → Run c m w o room raise
    → joined c m w calls ≡ stopped_samples c o s raise
    → Stops c (after_calls c m w calls).session
