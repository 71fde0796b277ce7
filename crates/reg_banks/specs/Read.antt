-- Document 01, "What a whole byte does": the byte that is due at a read. A read changes no register.
use Rattle.std.specs.Prelude.{ℕ, cond, ◌&&◌, List, get_or, eqb}
use Rattle.map_format.specs.Format.{register_at, blank, buffered, control}
use Rattle.base_chip.specs.declared.Chip.{Chip}
use Rattle.base_chip.specs.Chip.{reads_buffer}
use Rattle.bus_settings.specs.declared.Settings.{Settings}
use Rattle.bus_settings.specs.Settings.{control_reading}
use Rattle.reg_banks.specs.Banks.{Banks}

unfoldable pub due_byte : Chip → List ℕ → Banks → Settings → ℕ → ℕ
due_byte c m b t a =
    cond (eqb (register_at m a).kind blank) 0
    (cond (eqb (register_at m a).kind control) (control_reading c t a)
    (cond (eqb (register_at m a).kind buffered && (t.readback && reads_buffer c)) (get_or b.buffer a 0)
    (get_or b.active a 0)))
