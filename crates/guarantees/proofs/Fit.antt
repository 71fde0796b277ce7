-- The bytes of an accepted order, by the session's own settings, fit their run: each has an address of 15 bits, and each instruction of a run
-- finds the settings that the run began with.
use Prim.Native.Nat.{ℕ, zero, suc, ◌<◌}
use mathlib.Core.Path.{◌≡◌, refl}
use mathlib.Core.Bool.{Bool, true, false, cond, not, ◌&&◌, ◌||◌}
use mathlib.Core.List.{List, [], ◌∷◌}
use native.Mathlib.Omega.{arith}
use lib.Dec.{eqb, ltb}
use lib.ListN.{replicate}
use lib.Pow.{are_bytes}
use borrow.Author.Tests.{ltb-true}
use Rattle.base_bits.proofs.Cases.{each, and_left, and_right, or_left, or_right}
use Rattle.base_chip.specs.declared.Chip.{Chip}
use Rattle.base_chip.specs.declared.Chip.TheVariants.{Newer, Older}
use Rattle.base_chip.specs.Registers.{configuration_a, configuration_b}
use Rattle.bus_settings.specs.declared.Settings.{Settings}
use Rattle.bus_settings.specs.declared.InUse.{InUse}
use Rattle.bus_settings.specs.Settings.{in_use_of, counting, next_address, newer_after}
use Rattle.bus_settings.proofs.Laws.{next_lt}
use Rattle.read_run.specs.Reading.{ReaderState}
use Rattle.send_order.specs.Order.{Order, RunByte, is_read, run_from, sent_bytes}
use Rattle.send_order.specs.Number.{is_configuration, configures_early}
use Rattle.send_order.proofs.Laws.{admitted}
use Rattle.guarantees.specs.AtRest.{counting_of, AtRest, Accepted}
use Rattle.guarantees.proofs.Events.{settings_on}
use Rattle.guarantees.proofs.Runs.{whole_of, AllFit}

-- the data bits: bytes, and zeros in a read
abbrev Sent : Bool → List ℕ → Type 0
Sent read [] = Unit {0}
Sent read (v ∷ vs) = (v < 256) × (cond read v 0 ≡ 0) × Sent read vs

sent_zeros : (k : ℕ) → Sent true (replicate k 0)
sent_zeros zero = tt
sent_zeros (suc k) = (omega arith, refl, sent_zeros k)

sent_data : (vs : List ℕ) → are_bytes vs ≡ true → Sent false vs
sent_data [] h = tt
sent_data (v ∷ vs) h = (ltb-true v 256 (and_left (ltb v 256) (are_bytes vs) h), refl, sent_data vs (and_right (ltb v 256) (are_bytes vs) h))

sent_bytes_lem : (read : Bool) (k : ℕ) (vs : List ℕ) → are_bytes vs ≡ true → Sent read (cond read (replicate k 0) vs)
sent_bytes_lem true k vs h = sent_zeros k
sent_bytes_lem false k vs h = sent_data vs h

settings_kept_by_byte : (t : Settings) (p : RunByte) → is_configuration p ≡ false → newer_after t p.address p.byte ≡ t
unfolding newer_after
settings_kept_by_byte t p h =
    rw (
      or_left (eqb p.address configuration_a) (eqb p.address configuration_b) h,
      or_right (eqb p.address configuration_a)
          (eqb p.address configuration_b) h,
    )

-- the next instruction finds the settings in use: in a stream there is none, a read changes no setting, and of a single-instruction write
-- only the last byte may
steady_on :
    (c : Chip) (read : Bool) (u : InUse) (t : Settings) (p : RunByte) (early : Bool)
    → ((counting c u).single_instruction && not read && (is_configuration p || early)) ≡ false → cond (counting c u).single_instruction (in_use_of t) u ≡ u
    → cond (counting c u).single_instruction (in_use_of (settings_on c t (whole_of read p))) u ≡ u
steady_on Newer read u t p early h e = by_mode u.single_instruction read h e
  where
    by_mode :
        (single read : Bool) → (single && not read && (is_configuration p || early)) ≡ false → cond single (in_use_of t) u ≡ u
        → cond single (in_use_of (settings_on Newer t (whole_of read p))) u ≡ u
    by_mode false read h e = e
    by_mode true true h e = e
    by_mode true false h e = rw (settings_kept_by_byte t p (or_left (is_configuration p) early h)) e
steady_on (Older part top) read u t p early h e = e

late_on :
    (single read first early : Bool)
    → (single && not read && (first || early)) ≡ false → (single && not read && early) ≡ false
late_on false read first early h = refl
late_on true true first early h = refl
late_on true false first early h = or_right first early h

module _ (c : Chip) (read : Bool) (u : InUse) where
  all_fit :
      (t : Settings) (a : ℕ) (vs : List ℕ)
      → a < 0x8000 → Sent read vs
      → ((counting c u).single_instruction && not read && configures_early (run_from (counting c u).ascending a vs)) ≡ false
      → cond (counting c u).single_instruction (in_use_of t) u ≡ u
      → AllFit c read u t (run_from (counting c u).ascending a vs)
  unfolding run_from configures_early
  all_fit t a [] near sent late steady = tt
  all_fit t a (v ∷ []) near sent late steady = (record { near = near; small = sent.0; zeros = sent.1; steady = steady }, tt)
  all_fit t a (v ∷ v' ∷ vs) near sent late steady =
      let p : RunByte = record { address = a; byte = v } in
      let up : Bool = (counting c u).ascending in
      let next : ℕ = next_address up a in
      let early : Bool = configures_early (run_from up next (v' ∷ vs)) in
      let later = late_on (counting c u).single_instruction read (is_configuration p) early late in
      let steady' = steady_on c read u t p early late steady in (
        record { near = near; small = sent.0; zeros = sent.1; steady = steady },
        all_fit (settings_on c t (whole_of read p)) next (v' ∷ vs) (next_lt up a) sent.2 later steady',
      )

pub order_fits :
    (c : Chip) (m : List ℕ) (w : ReaderState) (o : Order) (room : ℕ) → AtRest c m w o → Accepted c o room
    → AllFit c (is_read o) (in_use_of w.session.port.settings) w.session.port.settings (run_from (counting_of c w).ascending o.start (sent_bytes o))
order_fits c m w o room rest accepted =
    let t : Settings = w.session.port.settings in
    let sound = admitted c o room accepted.number in
    all_fit c (is_read o) (in_use_of t) t o.start (sent_bytes o) (omega (arith, sound.start))
    (sent_bytes_lem (is_read o) o.count o.bytes accepted.data_bytes)
    (rw (rest.same_single, rest.same_direction) at sound.not_early)
    (each (λ (u : InUse). u ≡ in_use_of t) (counting_of c w).single_instruction (λ e. refl) (λ e. refl))
