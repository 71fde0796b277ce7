-- Document 01, "Records": the bytes of each event.
use Rattle.std.specs.Prelude.{ℕ, Bool, cond, List, [], ◌∷◌, ◌++◌, eqb}
use Rattle.base_bits.specs.Bytes.{word_bytes}
use Rattle.base_chip.specs.declared.Chip.{Chip}
use Rattle.bus_settings.specs.declared.Settings.{Settings}
use Rattle.bus_session.specs.declared.Event.{Event}
use Rattle.bus_session.specs.declared.Event.TheVariants.{Nothing, Whole, Aborted, Ended}
use Rattle.reg_banks.specs.Banks.{Banks}
use Rattle.reg_banks.specs.Read.{due_byte}
use Rattle.reg_write.specs.declared.Written.{Written}
use Rattle.reg_write.specs.Write.{written_of}
use Rattle.read_records.specs.declared.RecordKind.{RecordKind}
use Rattle.read_records.specs.declared.RecordKind.TheVariants.{Write, Read, Abort}

-- the number of a record's kind
abbrev pub kind_number : RecordKind → ℕ
kind_number Write = 1
kind_number Read = 2
kind_number Abort = 3

-- kind, address (big-endian), and three bytes by kind; document 02, Ask 8: then the bits that moved
abbrev pub record_bytes : ℕ → ℕ → ℕ → ℕ → ℕ → ℕ → List ℕ
record_bytes kind address third fourth fifth moved = kind ∷ (word_bytes address ++ (third ∷ fourth ∷ fifth ∷ moved ∷ []))

-- a write of v: v, the byte of the stage written or the control reading, the effect, and the bits that moved
abbrev pub write_record : ℕ → ℕ → Written → List ℕ
write_record a v w = record_bytes 1 a v w.byte w.effect w.moved

-- a read: the due byte, the byte on the line, and 0 if they are equal, else 1
abbrev pub read_record : ℕ → ℕ → ℕ → List ℕ
read_record a due line = record_bytes 2 a due line (cond (eqb due line) 0 1) 0

-- an abort (the paper's cut): the bits of the broken piece, and 0 in an instruction, 1 in data
abbrev pub abort_record : ℕ → ℕ → Bool → List ℕ
abort_record a bits in_data = record_bytes 3 a bits (cond in_data 1 0) 0 0

-- the record of an event, by the banks and settings before it
unfoldable pub record_of : Chip → List ℕ → Banks → Settings → Event → List ℕ
record_of c m b t Nothing = []
record_of c m b t (Whole read a v) = cond read (read_record a (due_byte c m b t a) v) (write_record a v (written_of c m b t a v))
record_of c m b t (Aborted a bits in_data) = abort_record a bits in_data
record_of c m b t Ended = []

-- how many records an event gives
abbrev pub records_in : Event → ℕ
records_in Nothing = 0
records_in (Whole read a v) = 1
records_in (Aborted a bits in_data) = 1
records_in Ended = 0
