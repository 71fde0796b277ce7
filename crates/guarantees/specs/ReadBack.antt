-- Demand 2, its last sentence: what the sender makes, read back, gives the ordered addresses and bytes in order.
use Rattle.std.specs.Prelude.{ℕ, ◌*◌, ◌≤◌, ◌≡◌, Bool, cond, false, List, [], ◌∷◌, ◌++◌, length}
use Rattle.base_bits.specs.Buffer.{filled}
use Rattle.base_sizes.specs.Sizes.{record_size}
use Rattle.base_numbers.specs.Numbers.{done}
use Rattle.base_chip.specs.declared.Chip.{Chip}
use Rattle.bus_settings.specs.declared.Settings.{Settings}
use Rattle.bus_settings.specs.Settings.{settings_after}
use Rattle.bus_session.specs.declared.Event.TheVariants.{Whole}
use Rattle.bus_session.specs.State.{resting}
use Rattle.reg_banks.specs.Banks.{Banks}
use Rattle.reg_write.specs.Write.{write_banks}
use Rattle.reg_write.specs.Rise.{rise_banks}
use Rattle.read_records.specs.Records.{record_of}
use Rattle.read_run.specs.Reading.{ReaderState}
use Rattle.read_calls.specs.Calls.{Outcome, read_of}
use Rattle.send_order.specs.Order.{Order, RunByte, is_read, run_bytes}
use Rattle.send_order.specs.Samples.{samples_of}
use Rattle.guarantees.specs.AtRest.{AtRest, Accepted}
use Rattle.guarantees.specs.Book.{armed_all, touched_all}

-- the settings after a whole byte of a run: a read changes none
abbrev pub settings_past : Chip → Bool → Settings → RunByte → Settings
settings_past c read t p = cond read t (settings_after c t p.address p.byte)

-- the settings that the bytes of a run leave
unfoldable pub settings_left : Chip → Bool → Settings → List RunByte → Settings
settings_left c read t [] = t
settings_left c read t (p ∷ ps) = settings_left c read (settings_past c read t p) ps

-- the banks after a whole byte: a read changes none
abbrev pub banks_past : Chip → List ℕ → Bool → Banks → RunByte → Banks
banks_past c m read b p = cond read b (write_banks c m b p.address p.byte)

-- the banks that the bytes leave
unfoldable pub banks_left : Chip → List ℕ → Bool → Banks → List RunByte → Banks
banks_left c m read b [] = b
banks_left c m read b (p ∷ ps) = banks_left c m read (banks_past c m read b p) ps

-- Document 02, Ask 4: and those that the rise at the run's end leaves; a read arms no session
abbrev pub banks_raised : Chip → List ℕ → Bool → Banks → List RunByte → Banks
banks_raised c m read b ps = rise_banks c m (cond read false (armed_all c m ps b false)) (banks_left c m read b ps)

-- Document 02, Ask 7: the words of touched registers that they leave; a read touches none
abbrev pub touched_left : Chip → List ℕ → Bool → Banks → List ℕ → List RunByte → List ℕ
touched_left c m read b ws ps = cond read ws (touched_all c m ps b ws)

-- their records: one for each byte in order, with its address and its value
unfoldable pub records_left : Chip → List ℕ → Bool → Banks → Settings → List RunByte → List ℕ
records_left c m read b t [] = []
records_left c m read b t (p ∷ ps) =
    record_of c m b t (Whole read p.address p.byte)
    ++ records_left c m read (banks_past c m read b p) (settings_past c read t p) ps

-- What reading a whole run leaves: as many records as the order counts, one for each of its bytes; the banks with these bytes and
-- their rise; the words with the registers that they touch; and the session at rest again, with the settings that the bytes
-- leave. The line bytes of a read are the zeros that were sent.
abbrev pub read_back_of : Chip → List ℕ → ReaderState → Order → List ℕ → Outcome
read_back_of c m w o records = record {
  number = done;
  state = record {
    session = record { port = resting false (settings_left c (is_read o) w.session.port.settings (run_bytes c o)); armed = false };
    banks = banks_raised c m (is_read o) w.banks (run_bytes c o);
    touched = touched_left c m (is_read o) w.banks w.touched (run_bytes c o);
  };
  count = o.count;
  records = filled (records_left c m (is_read o) w.banks w.session.port.settings (run_bytes c o)) records;
}

-- For any chip, any good map, any accepted order, any session at rest with the same settings and banks of n bytes, and room for a record a
-- byte: reading the sender's samples is done, and leaves just that.
abbrev pub ReadBack : Type 0
ReadBack =
    (c : Chip) (m : List ℕ) (o : Order) (room : ℕ) (w : ReaderState) (records : List ℕ)
    → AtRest c m w o → Accepted c o room → record_size * o.count ≤ length records
    → read_of c m w (samples_of c o) records ≡ read_back_of c m w o records
