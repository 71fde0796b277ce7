-- Document 01, "Records": 4,096 samples never give more than 1,366 records. A record takes three samples, but for the first:
-- each session has at most two of the three behind it.
use mathlib.Core.Path.{◌≡◌, refl}
use mathlib.Core.Bool.{Bool, true, false, cond, not, ◌&&◌}
use mathlib.Core.List.{List, [], ◌∷◌}
use Prim.Native.Nat.{ℕ, ◌+◌, ◌*◌, ◌≤◌}
use native.Mathlib.Omega.{arith}
use lib.Dec.{eqb, ltb}
use lib.ListN.{length}
use borrow.Author.Tests.{ltb-false, ne_eqb}
use Rattle.base_bits.proofs.Cases.{each}
use Rattle.base_chip.specs.declared.Chip.{Chip}
use Rattle.bus_settings.specs.declared.Settings.{Settings}
use Rattle.bus_session.specs.declared.Phase.{Phase}
use Rattle.bus_session.specs.declared.Phase.TheVariants.{Rest, Instruction, Data}
use Rattle.bus_session.specs.declared.Port.{Port}
use Rattle.bus_session.specs.declared.Event.{Event}
use Rattle.bus_session.specs.declared.Event.TheVariants.{Nothing, Whole, Aborted, Ended}
use Rattle.bus_session.specs.State.{at_levels, with_levels, resting, starting, is_data, is_counted}
use Rattle.bus_session.specs.Step.{step_of, csb_of, sclk_of, in_use_on, run_ends, with_bit, with_data_bit, after_byte, settings_on_byte, value_with, data_line}
use Rattle.bus_session.specs.Event.{event_of, bit_event, end_event}
use Rattle.read_records.specs.Records.{records_in}
use Rattle.read_run.specs.Reading.{record_count}

at_most_one : (e : Event) → records_in e ≤ 1
at_most_one Nothing = omega arith
at_most_one (Whole r a v) = omega arith
at_most_one (Aborted a b d) = omega arith
at_most_one Ended = omega arith

-- how many samples of the three that a record takes a session has behind it, at most, by CSB, SCLK and whether no bit is taken
abbrev behind_by : Bool → Bool → Bool → ℕ
behind_by csb sclk none = cond none (cond csb 0 (cond sclk 0 1)) 2

unfoldable behind : Port → ℕ
behind s = behind_by s.csb s.sclk (eqb s.bits 0)

two : (c k z : Bool) → behind_by c k z ≤ 2
two c k false = omega arith
two true k true = omega arith
two false true true = omega arith
two false false true = omega arith

behind_le : (s : Port) → behind s ≤ 2
unfolding behind
behind_le s = two s.csb s.sclk (eqb s.bits 0)

-- with CSB and SCLK low at least one is behind
open_low : (z : Bool) → 1 ≤ behind_by false false z
open_low true = omega arith
open_low false = omega arith

-- after a whole byte nothing is behind
after_none : (c : Chip) (s : Port) (t : Settings) → behind (after_byte c s t) ≡ 0
unfolding behind
after_none c s t =
    each (λ (u : Port). behind u ≡ 0) (in_use_on c s).single_instruction (λ e. refl)
    (λ e. each (λ (u : Port). behind u ≡ 0) (run_ends c s) (λ e. refl) (λ e. refl))

-- a bit of data, by whether the byte goes on
data_bit : (c : Chip) (s : Port) (b go : Bool) (e : Event) → ltb s.bits 7 ≡ go → records_in e ≤ 1
    → 3 * records_in (cond go Nothing e) + behind (with_data_bit c s b) ≤ behind_by false false (eqb s.bits 0) + 1
unfolding with_data_bit
data_bit c s b true e h r = omega (arith, behind_le (with_data_bit c s b), open_low (eqb s.bits 0))
data_bit c s b false e h r =
    let n : eqb s.bits 0 ≡ false = ne_eqb s.bits 0 (λ (z : s.bits ≡ 0). omega (arith, ltb-false s.bits 7 h)) in
    rw (n, h) (omega (arith, after_none c s (settings_on_byte c s (value_with s b))))

-- a bit, by the phase
any_bit : (c : Chip) (p : Phase) (s : Port) (x : ℕ) (e : Event) → records_in e ≤ 1 → behind (with_bit c p s x) ≤ 2
    → 3 * records_in (cond (is_data p) (cond (ltb s.bits 7) Nothing e) Nothing) + behind (with_bit c p s x) ≤ behind_by false false (eqb s.bits 0) + 1
any_bit c Rest s x e r b = omega (arith, open_low (eqb s.bits 0))
any_bit c Instruction s x e r b = omega (arith, open_low (eqb s.bits 0))
any_bit c Data s x e r b = data_bit c s (data_line c s x) (ltb s.bits 7) e refl r

-- CSB rises: a piece breaks off, nothing was taken, or a run stalls
rise_few : (s : Port) (x : ℕ) (z o : Bool) (e : Event) → eqb s.bits 0 ≡ z → csb_of x ≡ true → records_in e ≤ 1
    → 3 * records_in (cond (not (o && z)) (cond z Ended e) Nothing) + behind
    (cond (not (o && z)) (resting (sclk_of x) s.settings) (with_levels s x)) ≤ behind_by false s.sclk z + 1
unfolding behind
rise_few s x true true e h g r = rw (h, g) (omega arith)
rise_few s x true false e h g r = omega arith
rise_few s x false true e h g r = omega arith
rise_few s x false false e h g r = omega arith

low_few : (k z : Bool) → behind_by false k true ≤ behind_by true k z + 1
low_few true true = omega arith
low_few true false = omega arith
low_few false true = omega arith
low_few false false = omega arith

resumed : (k z : Bool) → 3 * 0 + behind_by false k z ≤ cond z 0 2 + 1
resumed true true = omega arith
resumed false true = omega arith
resumed k false = omega arith

level_few : (c z k l : Bool) → 3 * 0 + behind_by c l z ≤ behind_by c k z + 1
level_few c false k l = omega arith
level_few true true k l = omega arith
level_few false true k true = omega arith
level_few false true k false = omega arith

-- CSB falls: an instruction starts, or a run resumes
fall_few : (s : Port) (x : ℕ) (o : Bool) → csb_of x ≡ false → 3 * 0 + behind (cond o (starting (sclk_of x) s.settings) (with_levels s x)) ≤ behind_by true
    s.sclk (eqb s.bits 0) + 1
unfolding behind
fall_few s x true g = omega (arith, low_few (sclk_of x) (eqb s.bits 0))
fall_few s x false g = rw g (resumed (sclk_of x) (eqb s.bits 0))

-- One sample moves at most one of three: by the levels of CSB and SCLK, before and now.
three : (c : Chip) (s : Port) (x : ℕ) → 3 * records_in (event_of c s x) + behind (step_of c s x) ≤ behind s + 1
unfolding event_of step_of behind end_event bit_event
three c s x = at s.csb (csb_of x) s.sclk (sclk_of x) refl refl refl refl
  where
    at : (b d k l : Bool) → s.csb ≡ b → csb_of x ≡ d → s.sclk ≡ k → sclk_of x ≡ l
        → 3 * records_in (event_of c s x) + behind (step_of c s x) ≤ behind s + 1
    at true true k l ec eb ek el = rw (ec, eb) (level_few true (eqb s.bits 0) s.sclk (sclk_of x))
    at true false k l ec eb ek el = rw (ec, eb) (rw eb at (fall_few s x (eqb s.left 0) eb))
    at false true k l ec eb ek el =
        let piece : Event = Aborted s.address s.bits (is_data s.phase) in
        rw (ec, eb) (rw eb at (rise_few s x (eqb s.bits 0) (is_counted s.left) piece refl eb (at_most_one piece)))
    at false false true l ec eb ek el = rw (ec, eb, ek) (level_few false (eqb s.bits 0) true (sclk_of x))
    at false false false false ec eb ek el = rw (ec, eb, ek, el) (level_few false (eqb s.bits 0) false false)
    at false false false true ec eb ek el =
        let t : Port = at_levels s false false in
        rw (ec, eb, ek, el) (any_bit c s.phase t x (Whole s.read s.address (value_with s (data_line c s x))) (omega arith)
        (behind_le (with_bit c s.phase t x)))

count_behind : (c : Chip) (s : Port) (xs : List ℕ) → 3 * record_count c s xs ≤ length xs + behind s
unfolding record_count
count_behind c s [] = omega arith
count_behind c s (x ∷ xs) = omega (arith, three c s x, count_behind c (step_of c s x) xs)

-- Whatever the session, a record takes three samples, but for the first.
pub records_bound : (c : Chip) (s : Port) (xs : List ℕ) → 3 * record_count c s xs ≤ length xs + 2
records_bound c s xs = omega (arith, count_behind c s xs, behind_le s)

-- 4,096 samples never give more than 1,366 records
pub piece_bound : (c : Chip) (s : Port) (xs : List ℕ) → length xs ≤ 4096 → record_count c s xs ≤ 1366
piece_bound c s xs h = omega (arith, records_bound c s xs)
