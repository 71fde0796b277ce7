-- A run that the sender accepts goes to its last byte: on an older chip its count is that of its instruction, or it streams, and its addresses
-- stay from 0 to the top. Behind the last byte no counted run is left.
use Prim.Native.Nat.{ℕ, suc, ◌+◌, ◌-◌, ◌≤◌, ◌<◌}
use mathlib.Core.Path.{◌≡◌, refl, ap, subst, ◌∙◌}
use mathlib.Core.Bool.{Bool, true, false, cond, false≢true}
use mathlib.Core.List.{List, [], ◌∷◌, foldl}
use native.Mathlib.Omega.{arith}
use lib.Dec.{eqb, leb}
use lib.ListN.{length}
use borrow.Author.Tests.{ne_eqb, le-leb, leb-true, eqb-true}
use Rattle.base_bits.proofs.Cases.{each}
use Rattle.base_chip.specs.declared.Part.{Part}
use Rattle.base_chip.specs.declared.Chip.TheVariants.{Newer, Older}
use Rattle.bus_settings.specs.declared.Settings.{Settings}
use Rattle.bus_settings.specs.declared.InUse.{InUse}
use Rattle.bus_settings.specs.Settings.{next_address}
use Rattle.bus_session.specs.declared.Port.{Port}
use Rattle.bus_session.specs.declared.Event.TheVariants.{Whole}
use Rattle.bus_session.specs.State.{in_data, is_counted, sound_port}
use Rattle.bus_session.specs.Step.{runs_out, step_of}
use Rattle.bus_session.proofs.Form.{Form, rests, instructs, has_data, stalls, passes, left_after, sound_form}
use Rattle.send_order.specs.Order.{run_from}
use Rattle.send_order.specs.Samples.{length_bits, run_bits, clocked}
use Rattle.send_order.specs.Number.{up_to}
use Rattle.send_order.proofs.Addresses.{stays_on}
use Rattle.guarantees.proofs.Events.{settings_on}
use Rattle.guarantees.proofs.Pieces.{after_whole}
use Rattle.guarantees.proofs.Runs.{AllFit, Goes, goes_on, byte_first}

pub newer_goes : (u : InUse) (vs : List ℕ) (left a : ℕ) → Goes Newer u left a vs
newer_goes u [] left a = tt
newer_goes u (v ∷ []) left a = tt
newer_goes u (v ∷ w ∷ vs) left a = (refl, newer_goes u (w ∷ vs) (left_after left) (next_address u.ascending a))

-- what is left of a run with so many bytes to come: it streams, or is counted to the last of them
pub data Remaining (k : ℕ) : ℕ → Type 0 where
  streaming : Remaining k 4
  exactly : k < 4 → Remaining k k

pub instruction_leaves : (k : ℕ) → 1 ≤ k → Remaining k (length_bits k + 1)
instruction_leaves k h = by (leb k 3) refl
  where
    by : (t : Bool) → leb k 3 ≡ t → Remaining k (cond t (k - 1) 3 + 1)
    by true e =
        let same : k ≡ k - 1 + 1 = omega arith in
        subst (Remaining k) same (exactly (omega (arith, leb-true k 3 e)))
    by false e = streaming

-- with two bytes or more to come this one is not the last
more_left : (k : ℕ) {left : ℕ} → Remaining (suc (suc k)) left → (eqb left 1 ≡ false) × Remaining (suc k) (left_after left)
more_left k streaming = (refl, streaming)
more_left k (exactly h) =
    let counted : is_counted (suc (suc k)) ≡ true = rw (le-leb 1 (suc (suc k)) (omega arith), le-leb (suc (suc k)) 3 (omega arith)) in
    let less : suc k ≡ suc (suc k) - 1 = omega arith in
    (ne_eqb (suc (suc k)) 1 (λ (z : suc (suc k) ≡ 1). omega arith), rw counted (subst (Remaining (suc k)) less (exactly (omega arith))))

pub older_goes : (part : Part) (top : ℕ) (u : InUse) (vs : List ℕ) (left a : ℕ) → top < 0x7FFF → Remaining (length vs) left
    → up_to top (run_from u.lsb_first a vs) ≡ true → Goes (Older part top) u left a vs
older_goes part top u [] left a low r h = tt
older_goes part top u (v ∷ []) left a low r h = tt
older_goes part top u (v ∷ w ∷ ws) left a low r h =
    let m = more_left (length ws) r in
    let on = stays_on top u.lsb_first a v w ws low h in
    (rw (m.0, on.not_at_end), older_goes part top u (w ∷ ws) (left_after left) (next_address u.lsb_first a) low m.1 on.onward)

-- ---- what is left at the end

-- a newer chip has nothing of it
pub newer_left : (s : Port) → sound_port Newer s ≡ true → is_counted s.left ≡ false
newer_left s h = by (sound_form Newer s h)
  where
    by : {s : Port} → Form Newer s → is_counted s.left ≡ false
    by (rests k t) = refl
    by (instructs k n v t u h g) = refl
    by (has_data k n v a r l t u h g f d) = rw (eqb-true l 0 d)
    by (stalls k a r l t u f e d) = rw (eqb-true l 0 d)
    by (passes k t e) = refl

module _ (part : Part) (top : ℕ) (read : Bool) (u : InUse) where
  -- after the last byte a counted run is out, and one that streams goes on or is passed over
  last_left : (t : Settings) (a v : ℕ) {left : ℕ} → Remaining 1 left → is_counted (after_whole (Older part top) read t u a left v).left ≡ false
  last_left t a v streaming =
      each (λ (s : Port). is_counted s.left ≡ false) (runs_out (Older part top) 4 a u.lsb_first) (λ e. refl) (λ e. refl)
  last_left t a v (exactly h) = refl

  pub older_left : (vs : List ℕ) (v : ℕ) (t : Settings) (a left : ℕ) (sclk : Bool) → AllFit (Older part top) read u t (run_from u.lsb_first a (v ∷ vs))
      → Goes (Older part top) u left a (v ∷ vs) → Remaining (length (v ∷ vs)) left
      → is_counted
      (foldl (step_of (Older part top)) (in_data sclk 0 0 a read left t u)
      (clocked (run_bits false read u.lsb_first (run_from u.lsb_first a (v ∷ vs))))).left
      ≡ false
  unfolding run_from run_bits clocked
  older_left [] v t a left sclk fit goes r =
      ap (λ (s : Port). is_counted s.left) (byte_first (Older part top) read u [] v t a left sclk fit.0 (λ e. absurd (false≢true e))) ∙ last_left t a v r
  older_left (w ∷ ws) v t a left sclk fit goes r =
      ap (λ (s : Port). is_counted s.left)
      (byte_first (Older part top) read u (w ∷ ws) v t a left sclk fit.0 (λ e. absurd (false≢true e))
      ∙ ap
      (λ (s : Port). foldl (step_of (Older part top)) s
      (clocked (run_bits false read u.lsb_first (run_from u.lsb_first (next_address u.lsb_first a) (w ∷ ws)))))
      (goes_on (Older part top) read u t a left v goes.0))
      ∙ older_left ws w (settings_on (Older part top) t (Whole read a v)) (next_address u.lsb_first a) (left_after left) true fit.1 goes.1
      (more_left (length ws) r).1
