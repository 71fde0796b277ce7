-- What a sample completes: a whole byte, or a frame, with the piece that its end breaks off.
use Rattle.std.specs.Prelude.{ℕ, cond, eqb, ltb}
use Rattle.base_chip.specs.declared.Chip.{Chip}
use Rattle.bus_session.specs.declared.Port.{Port}
use Rattle.bus_session.specs.declared.Event.{Event}
use Rattle.bus_session.specs.declared.Event.TheVariants.{Nothing, Whole, Aborted, Ended}
use Rattle.bus_session.specs.State.{is_data}
use Rattle.bus_session.specs.Step.{takes_bit, frame_ends, data_line, value_with}

-- Document 01, "What a whole byte does": the eighth bit of data makes a byte whole.
unfoldable pub bit_event : Chip → Port → ℕ → Event
bit_event c s x =
    cond (is_data s.phase)
    (cond (ltb s.bits 7) Nothing (Whole s.read s.address (value_with s (data_line c s x))))
    Nothing

-- Document 01, "Records": a frame ends with at least one bit taken, which the paper calls a cut; or with none.
unfoldable pub end_event : Port → Event
end_event s = cond (eqb s.bits 0) Ended (Aborted s.address s.bits (is_data s.phase))

unfoldable pub event_of : Chip → Port → ℕ → Event
event_of c s x = cond (takes_bit s x) (bit_event c s x) (cond (frame_ends s x) (end_event s) Nothing)
