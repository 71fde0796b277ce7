-- What becomes of a port over samples of which at most the last gives an event.
use Rattle.std.specs.Prelude.{ℕ, ◌+◌, ◌<◌, ◌≤◌, ◌≡◌, Bool, true, false, List, length, get_or}
use Rattle.base_chip.specs.declared.Chip.{Chip}
use Rattle.bus_session.specs.declared.Port.{Port}
use Rattle.bus_session.specs.declared.Event.{Event}
use Rattle.bus_session.specs.declared.Event.TheVariants.{Nothing, Whole, Aborted, Ended}
use Rattle.bus_session.specs.Step.{step_of}
use Rattle.bus_session.specs.Event.{event_of}

-- Port s before sample i becomes t before sample j, and no sample between gives an event.
pub data Quiet (c : Chip) (xs : List ℕ) (s : Port) (i : ℕ) : Port → ℕ → Type 0 where
  still : Quiet c xs s i s i
  more : {t : Port} {j : ℕ} → Quiet c xs s i t j → j < length xs → event_of c t (get_or xs j 0) ≡ Nothing
      → Quiet c xs s i (step_of c t (get_or xs j 0)) (j + 1)

-- The same, and then one sample whatever it gives, or none.
pub data NextPath (c : Chip) (xs : List ℕ) (s : Port) (i : ℕ) : Event → Port → ℕ → Type 0 where
  none : {t : Port} {j : ℕ} → Quiet c xs s i t j → NextPath c xs s i Nothing t j
  one : {t : Port} {j : ℕ} → Quiet c xs s i t j → j < length xs
      → NextPath c xs s i (event_of c t (get_or xs j 0)) (step_of c t (get_or xs j 0)) (j + 1)

-- what is promised of the next event: at least one sample is passed
pub record NextAfter (c : Chip) (xs : List ℕ) (s : Port) (i : ℕ) (e : Event) (t : Port) (j : ℕ) : Type 0 where
  pub further : i < j
  pub within : j ≤ length xs
  pub path : NextPath c xs s i e t j

-- whether there is an event
abbrev pub happens : Event → Bool
happens Nothing = false
happens (Whole read address byte) = true
happens (Aborted address bits in_data) = true
happens Ended = true
