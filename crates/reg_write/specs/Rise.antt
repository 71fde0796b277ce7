-- Document 02, Ask 4: transfer when the select rises.
use Rattle.std.specs.Prelude.{ℕ, Bool, true, false, cond, ◌&&◌, ◌||◌, List, eqb}
use Rattle.base_bits.specs.Bits.{bit_at}
use Rattle.base_chip.specs.declared.Chip.{Chip}
use Rattle.base_chip.specs.Chip.{is_newer}
use Rattle.map_format.specs.Format.{flags_of}
use Rattle.reg_banks.specs.Banks.{Banks, transferred}
use Rattle.reg_write.specs.declared.Effect.{Effect}
use Rattle.reg_write.specs.declared.Effect.TheVariants.{Nothing, Byte, Control, Transfer, Reset, Ignored}

-- the end of a frame can move bytes: never on an older chip, nor with a map without the flag
abbrev pub moves_at_rise : Chip → List ℕ → Bool
moves_at_rise c m = is_newer c && bit_at (flags_of m) 0

-- Whether the session is armed after a write, by its effect: a byte to a buffered register arms it, a soft reset disarms it.
unfoldable pub armed_by : Chip → List ℕ → Bool → Effect → Bool
armed_by c m armed Nothing = armed
armed_by c m armed (Byte false a byte moved) = armed
armed_by c m armed (Byte true a byte moved) = armed || moves_at_rise c m
armed_by c m armed Control = armed
armed_by c m armed Transfer = armed
armed_by c m armed Reset = false
armed_by c m armed Ignored = armed

-- The end of a frame: of an armed session, each kind 3 active byte takes its buffer byte.
unfoldable pub rise_banks : Chip → List ℕ → Bool → Banks → Banks
rise_banks c m armed b = cond (armed && moves_at_rise c m) (transferred m b) b

-- what the code's test of an effect's number gives, by whether the end of a frame can move bytes
unfoldable pub armed_on : Bool → Bool → ℕ → Bool
armed_on moves armed effect = cond (eqb effect 5) false (cond (eqb effect 2) (armed || moves) armed)
