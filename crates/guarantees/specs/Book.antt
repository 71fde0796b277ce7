-- Document 01, "The sender" and "The stopped run": which bytes of a run are whole after s samples, and the book.
use Rattle.std.specs.Prelude.{ℕ, ◌+◌, ◌-◌, ◌*◌, ◌/◌, min, Bool, true, false, cond, not, ◌&&◌, ◌||◌, List, [], ◌∷◌, length, take, eqb}
use Rattle.base_chip.specs.declared.Chip.{Chip}
use Rattle.base_chip.specs.declared.Chip.TheVariants.{Newer, Older}
use Rattle.base_chip.specs.Registers.{serial_control, readback_control}
use Rattle.reg_banks.specs.Banks.{Banks}
use Rattle.reg_touched.specs.Touched.{touched_words}
use Rattle.reg_write.specs.Write.{effect_at, on_byte, write_banks}
use Rattle.reg_write.specs.Rise.{armed_by, rise_banks}
use Rattle.send_order.specs.Order.{Order, RunByte, is_single, run_bytes}
use Rattle.send_order.specs.Number.{is_configuration}

-- Byte i (from 1) is whole once 33 + 16i samples have been sent, or 48i + 1 with single instruction.
abbrev pub whole_after : Chip → Order → ℕ → ℕ
whole_after c o i = cond (is_single c o) (48 * i + 1) (33 + 16 * i)

-- w: how many of the bytes are whole after s samples, by that formula
unfoldable pub whole_bytes : Chip → Order → ℕ → ℕ
whole_bytes c o s = min (length (run_bytes c o)) (cond (is_single c o) ((s - 1) / 48) ((s - 33) / 16))

-- the writing rule, for each byte in order
unfoldable pub write_all : Chip → List ℕ → List RunByte → Banks → Banks
write_all c m [] b = b
write_all c m (p ∷ ps) b = write_all c m ps (write_banks c m b p.address p.byte)

-- Document 02, Ask 4: whether the session is armed after them
unfoldable pub armed_all : Chip → List ℕ → List RunByte → Banks → Bool → Bool
armed_all c m [] b armed = armed
armed_all c m (p ∷ ps) b armed =
    armed_all c m ps (write_banks c m b p.address p.byte) (armed_by c m armed (effect_at c m b p.address p.byte))

-- Document 02, Ask 7: the words of touched registers after them
unfoldable pub touched_all : Chip → List ℕ → List RunByte → Banks → List ℕ → List ℕ
touched_all c m [] b ws = ws
touched_all c m (p ∷ ps) b ws =
    touched_all c m ps (write_banks c m b p.address p.byte) (cond (on_byte (effect_at c m b p.address p.byte)) (touched_words ws p.address) ws)

-- the bytes of a run that are whole after s samples
abbrev pub whole_run : Chip → Order → ℕ → List RunByte
whole_run c o s = take (whole_bytes c o s) (run_bytes c o)

-- The book: for i = 1 to w it does the write of vi to ai. A broken byte makes no step. Document 02, Ask 4: last comes the rise; a run
-- begins with a session that is not armed.
unfoldable pub book_of : Chip → List ℕ → Order → ℕ → Banks → Banks
book_of c m o s b = rise_banks c m (armed_all c m (whole_run c o s) b false) (write_all c m (whole_run c o s) b)

-- Ask 7: the book keeps the words too. A broken byte touches nothing, and neither does the rise.
unfoldable pub touched_book : Chip → List ℕ → Order → ℕ → Banks → List ℕ → List ℕ
touched_book c m o s b ws = touched_all c m (whole_run c o s) b ws

-- 0x0000 or 0x0001 of a newer chip; document 02, Ask 1: 0x0000 or 0x0004 of an older one
abbrev pub sets_anything : Chip → RunByte → Bool
sets_anything Newer p = is_configuration p
sets_anything (Older part top) p = eqb p.address serial_control || eqb p.address readback_control

-- the run is clear of these
unfoldable pub clear_of_settings : Chip → List RunByte → Bool
clear_of_settings c [] = true
clear_of_settings c (p ∷ ps) = not (sets_anything c p) && clear_of_settings c ps
