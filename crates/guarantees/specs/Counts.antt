-- Document 01, "The sender": the sample counts and the whole bytes are what the formulas say.
use Rattle.std.specs.Prelude.{ℕ, ◌+◌, ◌*◌, ◌<◌, ◌≤◌, ◌≡◌, false, cond, List, length, take, leb}
use Rattle.base_chip.specs.declared.Chip.{Chip}
use Rattle.read_run.specs.Reading.{ReaderState, run_of}
use Rattle.send_order.specs.Order.{Order, is_read, is_single, run_bytes}
use Rattle.send_order.specs.Samples.{samples_of}
use Rattle.guarantees.specs.AtRest.{AtRest, Accepted}
use Rattle.guarantees.specs.Book.{whole_after, whole_bytes, whole_run, write_all}

-- Streaming gives 35 + 16k samples, single instruction 3 + 48k.
abbrev pub SampleCount : Type 0
SampleCount =
    (c : Chip) (o : Order) (room : ℕ) → Accepted c o room
    → length (samples_of c o) ≡ cond (is_single c o) (3 + 48 * o.count) (35 + 16 * o.count)

-- The count w of whole bytes is that of the formula: byte i is among the first w exactly when its 33 + 16i, or 48i + 1, samples have been sent.
abbrev pub WholeByte : Type 0
WholeByte =
    (c : Chip) (o : Order) (s i : ℕ) → 1 ≤ i → i ≤ length (run_bytes c o)
    → leb i (whole_bytes c o s) ≡ leb (whole_after c o i) s

-- A write of any kind, read up to sample s, before its last one, which raises the select: the banks are those of the bytes that are whole by
-- then. So the formula is when a byte takes effect.
abbrev pub WholeEffect : Type 0
WholeEffect =
    (c : Chip) (m : List ℕ) (w : ReaderState) (o : Order) (room s : ℕ) → AtRest c m w o → Accepted c o room → is_read o ≡ false
    → s < length (samples_of c o)
    → (run_of c m w (take s (samples_of c o))).banks ≡ write_all c m (whole_run c o s) w.banks
