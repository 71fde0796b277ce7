-- Going over samples to the next event: what is passed gives none.
use mathlib.Core.Path.{◌≡◌, refl, sym, ◌∙◌}
use mathlib.Core.Bool.{true, false, true≢false}
use mathlib.Core.List.{List}
use Prim.Native.Nat.{ℕ, ◌+◌, ◌<◌, ◌≤◌}
use native.Mathlib.Omega.{arith}
use lib.ListN.{length, get_or}
use Rattle.base_chip.specs.declared.Chip.{Chip}
use Rattle.bus_session.specs.declared.Port.{Port}
use Rattle.bus_session.specs.declared.Event.{Event}
use Rattle.bus_session.specs.declared.Event.TheVariants.{Nothing, Whole, Aborted, Ended}
use Rattle.bus_session.specs.State.{sound_port}
use Rattle.bus_session.specs.Step.{step_of}
use Rattle.bus_session.specs.Event.{event_of}
use Rattle.bus_session.proofs.Laws.{sound_step}
use Rattle.bus_trace.specs.declared.scan.Progress.{Progress}
use Rattle.bus_trace.specs.Path.{Quiet, still, more, none, one, NextAfter, happens}
use Rattle.bus_trace.specs.Progress.{with_progress, Reached}
use Rattle.bus_trace.proofs.Paths.{paths_joined}

pub quiet_event : (e : Event) → happens e ≡ false → e ≡ Nothing
quiet_event Nothing h = refl
quiet_event (Whole r a v) h = absurd (true≢false h)
quiet_event (Aborted a b d) h = absurd (true≢false h)
quiet_event Ended h = absurd (true≢false h)

module _ (c : Chip) where
  -- from port s₀ before sample i to port s before sample j
  pub record Scanned (xs : List ℕ) (s₀ : Port) (i : ℕ) (s : Port) (j : ℕ) : Type 0 where
    pub ahead : i ≤ j
    pub within : j ≤ length xs
    pub sound : sound_port c s ≡ true
    pub path : Quiet c xs s₀ i s j

  pub scan_begun : {xs : List ℕ} {s : Port} {i : ℕ} → sound_port c s ≡ true → i ≤ length xs → Scanned xs s i s i
  scan_begun f h = record { ahead = omega arith; within = h; sound = f; path = still }

  module _ {xs : List ℕ} {s₀ : Port} {i : ℕ} {s : Port} {j : ℕ} (k : Scanned xs s₀ i s j) where
    pub scan_quiet : {p : Progress} → Reached c xs s j p → Scanned xs s₀ i (with_progress s p) p.at
    scan_quiet r = record { ahead = omega (arith, r.ahead); within = r.within; sound = r.good.sound; path = paths_joined k.path r.path }

    pub scan_nothing : (t : Port) (e : Event) → j < length xs → t ≡ step_of c s (get_or xs j 0) → e ≡ event_of c s (get_or xs j 0) → happens e ≡ false
        → Scanned xs s₀ i t (j + 1)
    scan_nothing t e h es ee q =
        rw es
        (record {
          ahead = omega arith;
          within = omega arith;
          sound = sound_step c s (get_or xs j 0) k.sound;
          path = more k.path h (sym ee ∙ quiet_event e q);
        })

    pub scan_event : (t : Port) (e : Event) → j < length xs → t ≡ step_of c s (get_or xs j 0) → e ≡ event_of c s (get_or xs j 0) → NextAfter c xs s₀ i e t (j + 1)
    scan_event t e h es ee = rw (es, ee) (record { further = omega arith; within = omega arith; path = one k.path h })

    pub scan_ended : (e : Event) → e ≡ Nothing → i < length xs → length xs ≤ j → NextAfter c xs s₀ i e s j
    scan_ended e q h l = rw q (record { further = omega arith; within = k.within; path = none k.path })
