-- Document 01, "What a whole byte does": the banks after a write of v, and what the write answers.
use Rattle.std.specs.Prelude.{ℕ, ◌<◌, ◌≡◌, Bool, true, false, ◌||◌, List, eqb, get_or, set}
use Rattle.map_format.specs.Format.{register_at}
use Rattle.base_chip.specs.declared.Chip.{Chip}
use Rattle.bus_settings.specs.declared.Settings.{Settings}
use Rattle.bus_settings.specs.Settings.{settings_after, control_reading}
use Rattle.reg_banks.specs.Banks.{Banks, banks, default_banks, transferred}
use Rattle.reg_write.specs.declared.Stages.{Stages}
use Rattle.reg_write.specs.declared.Effect.{Effect}
use Rattle.reg_write.specs.declared.Effect.TheVariants.{Nothing, Byte, Control, Transfer, Reset, Ignored}
use Rattle.reg_write.specs.declared.Written.{Written}
use Rattle.reg_write.specs.Effect.{effect_of}

-- the bytes of one register in both stages
abbrev pub stages_at : Banks → ℕ → Stages
stages_at b a = record { active = get_or b.active a 0; buffer = get_or b.buffer a 0 }

-- the effect of a write of v to the register at an address
abbrev pub effect_at : Chip → List ℕ → Banks → ℕ → ℕ → Effect
effect_at c m b a v = effect_of c (register_at m a) (stages_at b a) a v

-- a byte put into one stage of the register at an address
abbrev pub with_byte : Bool → Banks → ℕ → ℕ → Banks
with_byte false b a byte = banks (set b.active a byte) b.buffer
with_byte true b a byte = banks b.active (set b.buffer a byte)

-- an effect applied to the banks
unfoldable pub applied : List ℕ → Banks → Effect → Banks
applied m b Nothing = b
applied m b (Byte ofBuffer a byte moved) = with_byte ofBuffer b a byte
applied m b Control = b
applied m b Transfer = transferred m b
applied m b Reset = default_banks m
applied m b Ignored = b

-- the banks after a write
unfoldable pub write_banks : Chip → List ℕ → Banks → ℕ → ℕ → Banks
write_banks c m b a v = applied m b (effect_at c m b a v)

abbrev pub written : ℕ → ℕ → ℕ → Written
written byte effect moved = record { byte = byte; effect = effect; moved = moved }

-- a control register answers its reading afterwards
abbrev pub control_written : Chip → Settings → ℕ → ℕ → ℕ → Written
control_written c t a v effect = written (control_reading c (settings_after c t a v) a) effect 0

-- What a write answers: the byte of the stage written, or the control reading, afterwards, and the number of its effect; 0 with
-- effect 0. Document 02, Ask 2: a byte that is ignored has effect 0 too, with the unchanged reading. Ask 8: with effects 1 and 2 also the
-- bits that moved, 0 otherwise.
unfoldable pub written_by : Chip → Settings → ℕ → ℕ → Effect → Written
written_by c t a v Nothing = written 0 0 0
written_by c t a v (Byte false at byte moved) = written byte 1 moved
written_by c t a v (Byte true at byte moved) = written byte 2 moved
written_by c t a v Control = control_written c t a v 3
written_by c t a v Transfer = control_written c t a v 4
written_by c t a v Reset = control_written c t a v 5
written_by c t a v Ignored = written (control_reading c t a) 0 0

abbrev pub written_of : Chip → List ℕ → Banks → Settings → ℕ → ℕ → Written
written_of c m b t a v = written_by c t a v (effect_at c m b a v)

-- what the code's write gives: its answer, and both banks
pub record Wrote (c : Chip) (m : List ℕ) (before : Banks) (t : Settings) (a v : ℕ) (answer : Written) (after : Banks) : Type 0 where
  pub answer_is : answer ≡ written_of c m before t a v
  pub next_banks : after ≡ write_banks c m before a v

-- the effect is on the byte of one register
abbrev pub on_byte : Effect → Bool
on_byte Nothing = false
on_byte (Byte ofBuffer a byte moved) = true
on_byte Control = false
on_byte Transfer = false
on_byte Reset = false
on_byte Ignored = false

-- what applying an effect to n registers asks: if it is on a byte, then on that of one of them
abbrev pub ByteBelow : ℕ → Effect → Type 0
ByteBelow n e = (ofBuffer : Bool) (a byte moved : ℕ) → e ≡ Byte ofBuffer a byte moved → a < n

-- whether it is on a byte by its number, which is then 1 or 2
abbrev pub touches_on : ℕ → Bool
touches_on effect = eqb effect 1 || eqb effect 2
