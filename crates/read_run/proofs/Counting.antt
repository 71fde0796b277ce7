-- Counting the records of samples: those of the samples passed, with the definition of what is left, are the whole.
use mathlib.Core.Path.{◌≡◌, sym, ◌∙◌}
use mathlib.Core.Bool.{true}
use mathlib.Core.List.{List}
use Prim.Native.Nat.{ℕ, ◌+◌, ◌*◌, ◌^◌, ◌<◌, ◌≤◌}
use native.Mathlib.Omega.{arith}
use native.Mathlib.Numerals.{add-one}
use native.Mathlib.Nat.{add-zero}
use lib.ListN.{length, get_or, drop, drop_of_length-le}
use lib.Seq.{drop-cons}
use Rattle.base_sizes.specs.Sizes.{record_size}
use Rattle.base_chip.specs.declared.Chip.{Chip}
use Rattle.bus_session.specs.declared.Port.{Port}
use Rattle.bus_session.specs.declared.Event.{Event}
use Rattle.bus_session.specs.State.{sound_port}
use Rattle.bus_session.specs.Step.{step_of}
use Rattle.bus_session.specs.Event.{event_of}
use Rattle.bus_session.proofs.Laws.{sound_step}
use Rattle.bus_trace.specs.Path.{Quiet, still, more, NextPath, none, one}
use Rattle.read_records.specs.Records.{records_in}
use Rattle.read_run.specs.Reading.{record_count}
use Rattle.read_run.proofs.Bound.{records_bound}

-- i samples are passed over, and the size of their records counted: with that of what is left it is the whole
pub record Counting (c : Chip) (xs : List ℕ) (s₀ s : Port) (size i : ℕ) : Type 0 where
  pub within : i ≤ length xs
  pub sound : sound_port c s ≡ true
  pub rest : size + record_size * record_count c s (drop i xs) ≡ record_size * record_count c s₀ xs

pub counting_begun : (c : Chip) (xs : List ℕ) (s : Port) → sound_port c s ≡ true → Counting c xs s s 0 0
counting_begun c xs s f = record { within = omega arith; sound = f; rest = omega arith }

counted : {c : Chip} {xs : List ℕ} {s₀ s : Port} {size i : ℕ} → i < length xs → Counting c xs s₀ s size i
    → Counting c xs s₀ (step_of c s (get_or xs i 0)) (size + record_size * records_in (event_of c s (get_or xs i 0))) (i + 1)
unfolding record_count
counted {c} {xs} {s₀} {s} {size} {i} h k = record {
  within = omega arith;
  sound = sound_step c s (get_or xs i 0) k.sound;
  rest = rw add-one (omega (arith, rw (drop-cons xs i 0) at k.rest));
}

pub still_counting : {c : Chip} {xs : List ℕ} {s₀ s : Port} {size i : ℕ} {t : Port} {j : ℕ} → Counting c xs s₀ s size i → Quiet c xs s i t j → Counting c xs s₀ t size j
still_counting k still = k
still_counting {size = size} k (more q h e) = rw (e, add-zero size) at (counted h (still_counting k q))

pub counted_next : {c : Chip} {xs : List ℕ} {s₀ s t : Port} {size i j : ℕ} {e : Event} → Counting c xs s₀ s size i → NextPath c xs s i e t j
    → Counting c xs s₀ t (size + record_size * records_in e) j
counted_next {size = size} k (none q) = rw (add-zero size) (still_counting k q)
counted_next k (one q h) = counted h (still_counting k q)

-- the size is a number that fits
pub size_fits : {c : Chip} {xs : List ℕ} {s₀ s : Port} {size i : ℕ} → length xs ≤ 65536 → Counting c xs s₀ s size i → size < 2 ^ 64
size_fits {c} {xs} {s₀} h k = omega (arith, records_bound c s₀ xs, k.rest)

pub counting_ended : {c : Chip} {xs : List ℕ} {s₀ s : Port} {size i : ℕ} → length xs ≤ i → Counting c xs s₀ s size i → size ≡ record_size * record_count c s₀ xs
unfolding record_count
counting_ended {c} {xs} {s₀} {s} {size} {i} h k = sym (add-zero size) ∙ (rw (drop_of_length-le xs h) at k.rest)
