-- What an event does to the banks and to the words of touched registers, and whether the session is armed after it.
use Rattle.std.specs.Prelude.{ℕ, Bool, false, cond, List}
use Rattle.base_chip.specs.declared.Chip.{Chip}
use Rattle.bus_session.specs.declared.Event.{Event}
use Rattle.bus_session.specs.declared.Event.TheVariants.{Nothing, Whole, Aborted, Ended}
use Rattle.reg_banks.specs.Banks.{Banks}
use Rattle.reg_touched.specs.Touched.{touched_words}
use Rattle.reg_write.specs.Write.{effect_at, on_byte, write_banks}
use Rattle.reg_write.specs.Rise.{armed_by, rise_banks}

-- Document 01, "What a whole byte does": a whole byte is written or read; a broken one does nothing. Document 02, Ask 4: the end of the
-- frame of an armed session moves the buffered registers, also where it breaks a piece off.
unfoldable pub banks_after : Chip → List ℕ → Bool → Banks → Event → Banks
banks_after c m armed b Nothing = b
banks_after c m armed b (Whole read a v) = cond read b (write_banks c m b a v)
banks_after c m armed b (Aborted a bits in_data) = rise_banks c m armed b
banks_after c m armed b Ended = rise_banks c m armed b

-- Ask 4: a write arms or disarms by its effect, and the end of the frame disarms
unfoldable pub armed_after : Chip → List ℕ → Bool → Banks → Event → Bool
armed_after c m armed b Nothing = armed
armed_after c m armed b (Whole read a v) = cond read armed (armed_by c m armed (effect_at c m b a v))
armed_after c m armed b (Aborted a bits in_data) = false
armed_after c m armed b Ended = false

-- Document 02, Ask 7: a write with effect 1 or 2 touches its register; nothing else changes the words
unfoldable pub touched_after : Chip → List ℕ → List ℕ → Banks → Event → List ℕ
touched_after c m ws b Nothing = ws
touched_after c m ws b (Whole read a v) = cond read ws (cond (on_byte (effect_at c m b a v)) (touched_words ws a) ws)
touched_after c m ws b (Aborted a bits in_data) = ws
touched_after c m ws b Ended = ws
