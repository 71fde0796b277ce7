-- A sound session is of one of five forms, the last two on older chips alone, and each sample leads from a form to a form.
use Prim.Native.Nat.{ℕ, zero, suc, ◌+◌, ◌-◌, ◌/◌, ◌%◌, ◌^◌, ◌<◌, ◌≤◌}
use mathlib.Core.Bool.{Bool, true, false, cond, not, ◌&&◌, ◌||◌, true≢false, false≢true}
use mathlib.Core.Path.{◌≡◌, refl, sym, subst}
use native.Mathlib.Omega.{arith}
use lib.Dec.{lit<, ltb, leb, eqb}
use borrow.Author.Tests.{ltb-true, lt-ltb, lt-leb, leb-true, le-leb, eqb-true, eqb-false, ne_eqb, not-true}
use Rattle.base_bits.specs.Tests.{every}
use Rattle.base_bits.proofs.Cases.{each, and_left, and_right, or_left, or_right, AllTrue, every_true}
use Rattle.base_bits.proofs.Laws.{shifted_lt}
use Rattle.base_chip.specs.declared.Chip.{Chip}
use Rattle.base_chip.specs.declared.Chip.TheVariants.{Newer, Older}
use Rattle.base_chip.specs.Chip.{is_newer}
use Rattle.bus_settings.specs.declared.Settings.{Settings}
use Rattle.bus_settings.specs.declared.InUse.{InUse}
use Rattle.bus_settings.specs.Settings.{in_use_of, next_address}
use Rattle.bus_settings.proofs.Laws.{next_lt}
use Rattle.bus_session.specs.declared.Phase.{Phase}
use Rattle.bus_session.specs.declared.Phase.TheVariants.{Rest, Instruction, Data}
use Rattle.bus_session.specs.declared.Port.{Port}
use Rattle.bus_session.specs.State.{at_levels, with_phase, with_bits, at_address, with_settings, with_levels, idle, resting, instructing, in_data, passing, is_counted, may_stall, length_good, zero_tests, sound_tests, sound_port}
use Rattle.bus_session.specs.Step.{csb_of, sclk_of, sdio_of, takes_bit, value_with, entered, with_instruction_bit, in_use_on, run_ends, settings_on_byte, after_byte, with_data_bit, data_line, step_of}

-- before a data byte of a counted run, with the select high
abbrev pub stalled : Bool → ℕ → Bool → ℕ → Settings → InUse → Port
stalled sclk address read left t u = at_levels (in_data sclk 0 0 address read left t u) true sclk

pub data Form (c : Chip) : Port → Type 0 where
  rests : (sclk : Bool) (t : Settings) → Form c (resting sclk t)
  instructs : (sclk : Bool) (bits value : ℕ) (t : Settings) (u : InUse)
      → bits < 16 → value < 2 ^ bits → Form c (instructing sclk bits value t u)
  has_data : (sclk : Bool) (bits value address : ℕ) (read : Bool) (left : ℕ) (t : Settings) (u : InUse)
      → bits < 8 → value < 2 ^ bits → address < 0x8000 → length_good c left address ≡ true → Form c (in_data sclk bits value address read left t u)
  stalls : (sclk : Bool) (address : ℕ) (read : Bool) (left : ℕ) (t : Settings) (u : InUse)
      → address < 0x8000 → is_counted left ≡ true → length_good c left address ≡ true → Form c (stalled sclk address read left t u)
  passes : (sclk : Bool) (t : Settings) → is_newer c ≡ false → Form c (passing sclk t)

-- the tests of a sound session in its phase
tests : (c : Chip) (s : Port) → sound_port c s ≡ true → (p : Phase) → s.phase ≡ p → AllTrue (sound_tests c p s)
unfolding sound_port
tests c s h p e = every_true (sound_tests c p s) (subst (λ (q : Phase). every (sound_tests c q s) ≡ true) e h)

pub form_sound : {c : Chip} {s : Port} → Form c s → sound_port c s ≡ true
unfolding sound_port every
form_sound (rests k t) = refl
form_sound (instructs k n v t u h g) = simp (le-leb n 15 (omega arith), lt-ltb v (2 ^ n) g)
form_sound (has_data k n v a r l t u h g f d) = simp (le-leb n 7 (omega arith), lt-ltb v (2 ^ n) g, le-leb a 0x7FFF (omega arith), d)
form_sound (stalls k a r l t u f e d) = simp (le-leb a 0x7FFF (omega arith), e, d)
form_sound (passes k t e) = rw e refl

-- where all but the levels and the settings is zero
zeros : (s : Port) → AllTrue (zero_tests s) → {csb : Bool} → s.csb ≡ csb → s.phase ≡ Rest → s ≡ idle csb s.sclk s.settings
zeros s q b e =
    let r = q.1.1.1 in
    let u = r.1.1 in
    λ i. with_settings
    (at_address
    (with_bits (with_phase (at_levels s (b i) s.sclk) (e i)) (eqb-true s.bits 0 q.0 i) (eqb-true s.value 0 q.1.0 i))
    (eqb-true s.address 0 q.1.1.0 i) (not-true s.read r.0 i) (eqb-true s.left 0 r.1.0 i))
    s.settings
    (record {
      lsb_first = not-true s.in_use.lsb_first u.0 i;
      ascending = not-true s.in_use.ascending u.1.0 i;
      sdo_active = not-true s.in_use.sdo_active u.1.1.0 i;
      single_instruction = not-true s.in_use.single_instruction u.1.1.1.0 i;
    })

-- at rest all but SCLK and the settings is fixed
pub rest_form : (c : Chip) (s : Port) → sound_port c s ≡ true → s.phase ≡ Rest → s.csb ≡ true → s ≡ resting s.sclk s.settings
rest_form c s h e b = zeros s (tests c s h Rest e).1 b e

pub sound_form : (c : Chip) (s : Port) → sound_port c s ≡ true → Form c s
sound_form c s h = go s.phase refl
  where
    go : (p : Phase) → s.phase ≡ p → Form c s
    go Rest e = by_level s.csb refl (tests c s h Rest e).0
      where
        by_level : (b : Bool) → s.csb ≡ b → (b || not (is_newer c)) ≡ true → Form c s
        by_level true g o = subst (Form c) (sym (rest_form c s h e g)) (rests s.sclk s.settings)
        by_level false g o = subst (Form c) (sym (zeros s (tests c s h Rest e).1 g e)) (passes s.sclk s.settings (not-true (is_newer c) o))
    go Instruction e =
        let q = tests c s h Instruction e in
        let same : s ≡ instructing s.sclk s.bits s.value s.settings s.in_use =
        λ i. at_address (with_phase (at_levels s (not-true s.csb q.0 i) s.sclk) (e i))
        (eqb-true s.address 0 q.1.1.1.0 i) (not-true s.read q.1.1.1.1.0 i) (eqb-true s.left 0 q.1.1.1.1.1.0 i) in
        subst (Form c) (sym same)
        (instructs s.sclk s.bits s.value s.settings s.in_use
        (omega (arith, leb-true s.bits 15 q.1.0)) (ltb-true s.value (2 ^ s.bits) q.1.1.0))
    go Data e =
        let q = tests c s h Data e in
        let near : s.address < 0x8000 = omega (arith, leb-true s.address 0x7FFF q.1.1.1.0) in
        let small = ltb-true s.value (2 ^ s.bits) q.1.1.0 in
        by_csb s.csb refl q.0 (omega (arith, leb-true s.bits 7 q.1.0)) small near q.1.1.1.1.0
      where
        by_csb : (b : Bool) → s.csb ≡ b → (not b || may_stall s) ≡ true → s.bits < 8 → s.value < 2 ^ s.bits → s.address < 0x8000
            → length_good c s.left s.address ≡ true → Form c s
        by_csb false g o few small near d =
            let same : s ≡ in_data s.sclk s.bits s.value s.address s.read s.left s.settings s.in_use =
            λ i. with_phase (at_levels s (g i) s.sclk) (e i) in
            subst (Form c) (sym same)
            (has_data s.sclk s.bits s.value s.address s.read s.left s.settings s.in_use few small near d)
        by_csb true g o few small near d =
            let none = eqb-true s.bits 0 (and_right (is_counted s.left) (eqb s.bits 0) o) in
            let zero : s.value ≡ 0 = omega (arith, rw none at small) in
            let same : s ≡ stalled s.sclk s.address s.read s.left s.settings s.in_use =
            λ i. with_bits (with_phase (at_levels s (g i) s.sclk) (e i)) (none i) (zero i) in
            subst (Form c) (sym same)
            (stalls s.sclk s.address s.read s.left s.settings s.in_use near (and_left (is_counted s.left) (eqb s.bits 0) o) d)

-- two length bits make 1 to 4
length_bits_lem : (n : ℕ) → n < 4 → (is_counted (n + 1) || eqb (n + 1) 4) ≡ true
length_bits_lem zero h = refl
length_bits_lem (suc zero) h = refl
length_bits_lem (suc (suc zero)) h = refl
length_bits_lem (suc (suc (suc zero))) h = refl
length_bits_lem (suc (suc (suc (suc n)))) h = absurd (omega arith)

form_entered : (c : Chip) (v : ℕ) (t : Settings) (u : InUse) → Form c (entered c v t u)
unfolding entered
form_entered Newer v t u = has_data true _ _ (v % 0x8000) _ _ _ _ (lit< tt) (lit< tt) (omega arith) refl
form_entered (Older part top) v t u =
    each (Form (Older part top)) (leb (v % 0x2000) top)
    (λ e. has_data true _ _ (v % 0x2000) _ _ _ _ (lit< tt) (lit< tt) (omega arith) (rw (length_bits_lem (v / 0x2000 % 4) (omega arith)) e))
    (λ e. passes true t refl)

form_instruction : (c : Chip) (s : Port) (b : Bool) → s.bits < 16 → s.value < 2 ^ s.bits → Form c (with_instruction_bit c s b)
unfolding with_instruction_bit
form_instruction c s b h g =
    each (Form c) (ltb s.bits 15)
    (λ e. instructs true _ _ _ _ (omega (arith, ltb-true s.bits 15 e))
    (shifted_lt s.in_use.lsb_first s.value s.bits b g))
    (λ e. form_entered c (value_with s b) s.settings s.in_use)

-- the bytes left of a run, after one of them
abbrev pub left_after : ℕ → ℕ
left_after left = cond (is_counted left) (left - 1) left

-- a run that does not end has a byte to come
left_after_lem : (l : ℕ) → (is_counted l || eqb l 4) ≡ true → eqb l 1 ≡ false → (is_counted (left_after l) || eqb (left_after l) 4) ≡ true
left_after_lem zero h g = h
left_after_lem (suc zero) h g = absurd (true≢false g)
left_after_lem (suc (suc zero)) h g = refl
left_after_lem (suc (suc (suc zero))) h g = refl
left_after_lem (suc (suc (suc (suc zero)))) h g = refl
left_after_lem (suc (suc (suc (suc (suc l))))) h g =
    let n = suc (suc (suc (suc (suc l)))) in
    absurd (false≢true (rw (le-leb 1 n (omega arith), lt-leb n 3 (omega arith), ne_eqb n 4 (λ (z : n ≡ 4). omega arith)) at h))

-- the next address of a run that does not end is up to the top
next_top : (up : Bool) (a top : ℕ) → a ≤ top → eqb a (cond up top 0) ≡ false → next_address up a ≤ top
next_top true a top h g = let d = eqb-false a top g in omega (arith, d)
next_top false a top h g = let d = eqb-false a 0 g in omega (arith, d)

-- data goes on
length_next : (c : Chip) (s : Port) → length_good c s.left s.address ≡ true → run_ends c s ≡ false
    → length_good c (left_after s.left) (next_address (in_use_on c s).ascending s.address) ≡ true
length_next Newer s d e = let z = eqb-true s.left 0 d in rw z refl
length_next (Older part top) s d e =
    let l : (is_counted s.left || eqb s.left 4) ≡ true = and_left _ (leb s.address top) d in
    let a = leb-true s.address top (and_right (is_counted s.left || eqb s.left 4) _ d) in
    rw (left_after_lem s.left l (or_left _ _ e))
    (le-leb _ top (next_top s.in_use.lsb_first s.address top a (or_right (eqb s.left 1) _ e)))

-- only an older chip's run ends
older_ends : (c : Chip) (s : Port) → run_ends c s ≡ true → is_newer c ≡ false
older_ends Newer s e = absurd (false≢true e)
older_ends (Older part top) s e = refl

form_after : (c : Chip) (s : Port) (t : Settings) → length_good c s.left s.address ≡ true → Form c (after_byte c s t)
form_after c s t d =
    each (Form c) (in_use_on c s).single_instruction (λ e. instructs true _ _ _ _ (lit< tt) (lit< tt))
    (λ e. each (Form c) (run_ends c s) (λ f. passes true t (older_ends c s f))
    (λ f. has_data true _ _ _ _ _ _ _ (lit< tt) (lit< tt) (next_lt (in_use_on c s).ascending s.address) (length_next c s d f)))

form_data : (c : Chip) (s : Port) (b : Bool) → s.bits < 8 → s.value < 2 ^ s.bits → s.address < 0x8000
    → length_good c s.left s.address ≡ true → Form c (with_data_bit c s b)
unfolding with_data_bit
form_data c s b h g f d =
    each (Form c) (ltb s.bits 7)
    (λ e. has_data true _ _ _ _ _ _ _ (omega (arith, ltb-true s.bits 7 e))
    (shifted_lt s.in_use.lsb_first s.value s.bits b g) f d)
    (λ e. form_after c s (settings_on_byte c s (value_with s b)) d)

-- a run that is counted has a byte left
some_left : (l : ℕ) → is_counted l ≡ true → eqb l 0 ≡ false
some_left zero e = absurd (false≢true e)
some_left (suc l) e = ne_eqb (suc l) 0 (λ (z : suc l ≡ 0). omega arith)

pub form_step : {c : Chip} {s : Port} → Form c s → (x : ℕ) → Form c (step_of c s x)
unfolding step_of
form_step {c} (rests k t) x = by_csb (csb_of x) refl
  where
    by_csb : (b : Bool) → csb_of x ≡ b → Form c (step_of c (resting k t) x)
    by_csb true e = rw e (rests (sclk_of x) t)
    by_csb false e = rw e (instructs (sclk_of x) 0 0 t (in_use_of t) (lit< tt) (lit< tt))
form_step {c} {s} (instructs k n v t u h g) x =
    each (Form c) (takes_bit s x) (λ e. form_instruction c s (sdio_of x) h g)
    (λ e. by_csb (csb_of x) refl)
  where
    by_csb : (b : Bool) → csb_of x ≡ b → Form c (cond (csb_of x && true) (resting (sclk_of x) t) (with_levels (instructing k n v t u) x))
    by_csb true e = rw e (rests (sclk_of x) t)
    by_csb false e = rw e (instructs (sclk_of x) n v t u h g)
form_step {c} {s} (has_data k n v a r l t u h g f d) x =
    each (Form c) (takes_bit s x) (λ e. form_data c s (data_line c s x) h g f d)
    (λ e. by_csb (csb_of x) (may_stall s) refl refl)
  where
    by_csb : (b o : Bool) → csb_of x ≡ b → may_stall (in_data k n v a r l t u) ≡ o
        → Form c (cond (csb_of x && not (may_stall (in_data k n v a r l t u))) (resting (sclk_of x) t)
        (with_levels (in_data k n v a r l t u) x))
    by_csb true true e o =
        let z = eqb-true n 0 (and_right (is_counted l) (eqb n 0) o) in
        let w : v ≡ 0 = omega (arith, rw z at g) in
        rw (e, o, z, w) (stalls (sclk_of x) a r l t u f (and_left (is_counted l) (eqb n 0) o) d)
    by_csb true false e o = rw (e, o) (rests (sclk_of x) t)
    by_csb false o e q = rw e (has_data (sclk_of x) n v a r l t u h g f d)
form_step {c} (stalls k a r l t u f e d) x = by_csb (csb_of x) refl
  where
    by_csb : (b : Bool) → csb_of x ≡ b → Form c (step_of c (stalled k a r l t u) x)
    by_csb true g = rw g (stalls (sclk_of x) a r l t u f e d)
    by_csb false g = rw (g, some_left l e) (has_data (sclk_of x) 0 0 a r l t u (lit< tt) (lit< tt) f d)
form_step {c} (passes k t e) x = by_csb (csb_of x) refl
  where
    by_csb : (b : Bool) → csb_of x ≡ b → Form c (step_of c (passing k t) x)
    by_csb true g = rw g (rests (sclk_of x) t)
    by_csb false g = rw g (each (Form c) (not k && sclk_of x) (λ h. passes (sclk_of x) t e) (λ h. passes (sclk_of x) t e))
