-- The companions of demand 3: what is in force, what waits, what a broken byte does, and that such lists of calls exist.
use Rattle.std.specs.Prelude.{ℕ, ◌*◌, ◌<◌, ◌≤◌, ◌≡◌, Bool, true, false, ◌&&◌, ◌||◌, List, [], ◌∷◌, ◌++◌, eqb, length, get_or, take}
use Rattle.base_sizes.specs.Sizes.{record_size}
use Rattle.map_format.specs.Format.{register_at, buffered}
use Rattle.base_chip.specs.declared.Chip.{Chip}
use Rattle.base_chip.specs.Registers.{configuration_a}
use Rattle.base_chip.specs.Chip.{is_newer}
use Rattle.base_card.specs.Card.{is_mirror}
use Rattle.bus_settings.specs.Settings.{resets, transfers_at}
use Rattle.reg_banks.specs.Banks.{default_banks}
use Rattle.reg_write.specs.Rise.{moves_at_rise, rise_banks}
use Rattle.read_run.specs.Reading.{ReaderState, record_count}
use Rattle.send_order.specs.Order.{Order, RunByte}
use Rattle.send_order.specs.Samples.{samples_of}
use Rattle.guarantees.specs.Calls.{Call, is_done, after_calls, joined}
use Rattle.guarantees.specs.Book.{whole_bytes, whole_run, write_all, armed_all, clear_of_settings}
use Rattle.guarantees.specs.StoppedRun.{Run, stopped_samples}

-- Document 01, "The stopped run": a transfer is 0x000F written with bit 0 set. Document 02, Ask 1: 0x0005 is it on an older chip.
abbrev pub is_transfer : Chip → RunByte → Bool
is_transfer c p = transfers_at c p.address p.byte

unfoldable pub any_transfer : Chip → List RunByte → Bool
any_transfer c [] = false
any_transfer c (p ∷ ps) = is_transfer c p || any_transfer c ps

-- Document 02, Ask 11: a soft reset is a byte to 0x0000 of a newer chip with bit 7 set; Ask 2: it is its own mirror.
abbrev pub is_reset : Chip → RunByte → Bool
is_reset c p = (is_newer c && eqb p.address configuration_a) && (is_mirror p.byte && resets p.byte)

unfoldable pub any_reset : Chip → List RunByte → Bool
any_reset c [] = false
any_reset c (p ∷ ps) = is_reset c p || any_reset c ps

-- There is none in a run clear of the settings, as document 01 has it.
abbrev pub ClearOfResets : Type 0
ClearOfResets = (c : Chip) (ps : List RunByte) → clear_of_settings c ps ≡ true → any_reset c ps ≡ false

-- Document 02, Ask 4: some byte goes to a buffered register
unfoldable pub any_buffered : List ℕ → List RunByte → Bool
any_buffered m [] = false
any_buffered m (p ∷ ps) = eqb (register_at m p.address).kind buffered || any_buffered m ps

-- the raise after s samples moves the buffered registers
abbrev pub moves_after : Chip → List ℕ → Order → ℕ → Bool
moves_after c m o s = any_buffered m (whole_run c o s) && moves_at_rise c m

-- A list of calls for a run stopped after s samples: before the raise, or with one that moves nothing.
pub data Unmoved (c : Chip) (m : List ℕ) (w : ReaderState) (o : Order) (s raise : ℕ) (calls : List Call) : Type 0 where
  unraised : s < length (samples_of c o) → joined c m w calls ≡ take s (samples_of c o) → Unmoved c m w o s raise calls
  still : moves_after c m o s ≡ false → joined c m w calls ≡ stopped_samples c o s raise → Unmoved c m w o s raise calls

-- such a list, with no soft reset whole, and a buffered register of the map
pub record Stopped (c : Chip) (m : List ℕ) (w : ReaderState) (o : Order) (room s raise : ℕ) (calls : List Call) (a : ℕ) : Type 0 where
  pub run : Run c m w o room raise
  pub read : Unmoved c m w o s raise calls
  pub no_reset : any_reset c (whole_run c o s) ≡ false
  pub kind : (register_at m a).kind ≡ buffered

-- A buffered register keeps what was in force while no transfer has been whole.
abbrev pub KeptInForce : Type 0
KeptInForce =
    (c : Chip) (m : List ℕ) (w : ReaderState) (o : Order) (room s raise : ℕ) (calls : List Call) (a : ℕ)
    → Stopped c m w o room s raise calls a
    → any_transfer c (whole_run c o s) ≡ false
    → get_or (after_calls c m w calls).banks.active a 0 ≡ get_or w.banks.active a 0

-- The last whole transfer puts in force what the buffer stage then held; bytes written after it wait.
abbrev pub LastTransfer : Type 0
LastTransfer =
    (c : Chip) (m : List ℕ) (w : ReaderState) (o : Order) (room s raise : ℕ) (calls : List Call) (a : ℕ)
    (before : List RunByte) (transfer : RunByte) (later : List RunByte)
    → Stopped c m w o room s raise calls a
    → whole_run c o s ≡ before ++ (transfer ∷ later) → is_transfer c transfer ≡ true → any_transfer c later ≡ false
    → get_or (after_calls c m w calls).banks.active a 0 ≡ get_or (write_all c m before w.banks).buffer a 0

-- Document 02, Ask 4: a raise that moves puts in force what the whole bytes have left in the buffer stage of each buffered register.
abbrev pub InForceAtRaise : Type 0
InForceAtRaise =
    (c : Chip) (m : List ℕ) (w : ReaderState) (o : Order) (room s raise : ℕ) (calls : List Call) (a : ℕ)
    → Run c m w o room raise
    → joined c m w calls ≡ stopped_samples c o s raise → (register_at m a).kind ≡ buffered
    → any_reset c (whole_run c o s) ≡ false → moves_after c m o s ≡ true
    → get_or (after_calls c m w calls).banks.active a 0 ≡ get_or (write_all c m (whole_run c o s) w.banks).buffer a 0

-- Document 02, Ask 11: a soft reset written whole also puts the defaults of buffered registers in force, with no transfer. The bytes behind it
-- are written to the defaults, and they alone count for the rise.
abbrev pub AfterReset : Type 0
AfterReset =
    (c : Chip) (m : List ℕ) (w : ReaderState) (o : Order) (room s raise : ℕ) (calls : List Call)
    (before : List RunByte) (reset : RunByte) (later : List RunByte)
    → Run c m w o room raise
    → joined c m w calls ≡ stopped_samples c o s raise
    → whole_run c o s ≡ before ++ (reset ∷ later) → is_reset c reset ≡ true
    → (after_calls c m w calls).banks ≡ rise_banks c m (armed_all c m later (default_banks m) false) (write_all c m later (default_banks m))

-- A broken byte changes nothing: stopped inside a byte, or where the bytes before it had just become whole, both stages are the same.
abbrev pub BrokenByte : Type 0
BrokenByte =
    (c : Chip) (m : List ℕ) (w : ReaderState) (o : Order) (room s s' raise : ℕ) (calls calls' : List Call)
    → Run c m w o room raise
    → whole_bytes c o s ≡ whole_bytes c o s'
    → joined c m w calls ≡ stopped_samples c o s raise → joined c m w calls' ≡ stopped_samples c o s' raise
    → (after_calls c m w calls).banks ≡ (after_calls c m w calls').banks

-- With the next of the samples, and room for their records, a call is done.
abbrev pub NextDone : Type 0
NextDone =
    (c : Chip) (m : List ℕ) (w : ReaderState) (o : Order) (room s raise : ℕ) (calls : List Call) (next rest records : List ℕ)
    → Run c m w o room raise
    → joined c m w calls ++ (next ++ rest) ≡ stopped_samples c o s raise
    → record_size * record_count c (after_calls c m w calls).session.port next ≤ length records
    → is_done c m (after_calls c m w calls) (record { samples = next; records = records }) ≡ true

-- a list of calls for a run stopped after s samples, the first of which is refused
pub record RefusedFirst (c : Chip) (m : List ℕ) (w : ReaderState) (o : Order) (s raise : ℕ) : Type 0 where
  pub first : Call
  pub more : List Call
  pub refused : is_done c m w first ≡ false
  pub read : joined c m w (first ∷ more) ≡ stopped_samples c o s raise

-- The claim is not empty: for each run and each stop there is a list of calls, with a refused call in it.
abbrev pub ListsExist : Type 0
ListsExist =
    (c : Chip) (m : List ℕ) (w : ReaderState) (o : Order) (room s raise : ℕ)
    → Run c m w o room raise → RefusedFirst c m w o s raise
