-- The samples at which a scan stops: what each makes of the port, field by field, and what it completes.
use Prim.Native.Nat.{ℕ, ◌+◌, ◌-◌, ◌/◌, ◌%◌, ◌≤◌}
use mathlib.Core.Path.{◌≡◌, refl, sym, ◌∙◌, ap}
use mathlib.Core.Bool.{Bool, true, false, cond, not, ◌&&◌, false≢true, and-true, and-false}
use native.Mathlib.Omega.{arith}
use lib.Dec.{eqb, leb}
use borrow.Author.Tests.{eqb-true, ne_eqb, leb-false, not-true}
use Rattle.base_bits.specs.Bits.{bit_at, shifted_in}
use Rattle.base_bits.proofs.Cases.{each, and_left, and_right}
use Rattle.base_chip.specs.declared.Chip.{Chip}
use Rattle.base_chip.specs.declared.Chip.TheVariants.{Newer, Older}
use Rattle.base_chip.specs.Chip.{is_newer}
use Rattle.bus_settings.specs.declared.Settings.{Settings}
use Rattle.bus_settings.specs.declared.InUse.{InUse}
use Rattle.bus_settings.specs.Settings.{in_use_of, counting, next_address, newer_after, older_after, settings_after}
use Rattle.bus_session.specs.declared.Phase.{Phase}
use Rattle.bus_session.specs.declared.Phase.TheVariants.{Rest, Instruction, Data}
use Rattle.bus_session.specs.declared.Port.{Port}
use Rattle.bus_session.specs.declared.Event.TheVariants.{Nothing, Whole}
use Rattle.bus_session.specs.State.{at_levels, with_phase, with_bits, at_address, with_settings, idle, resting, is_data, is_counted, may_stall, sound_port}
use Rattle.bus_session.specs.Step.{csb_of, sclk_of, takes_bit, entered, with_instruction_bit, settings_on_byte, runs_out, after_byte, with_data_bit, step_of}
use Rattle.bus_session.specs.Event.{bit_event, end_event, event_of}
use Rattle.bus_session.proofs.Form.{Form, rests, instructs, has_data, stalls, passes, sound_form}
use Rattle.bus_trace.specs.Progress.{last_of, source_line}
use Rattle.bus_trace.proofs.Advance.{on_line}
use Rattle.read_run.specs.ScanPort.{phase_of_last}
use Rattle.read_run.specs.Reach.{reaches}

-- an instruction starts
abbrev pub started : Port → Bool → Port
started t sclk = with_settings (with_phase (at_levels t false sclk) Instruction) t.settings (in_use_of t.settings)

-- the last bit of an instruction
abbrev pub instructed : Port → ℕ → ℕ → ℕ → Port
instructed t v address left = at_address (with_bits (with_phase (at_levels t t.csb true) Data) 0 0) address (leb 0x8000 v) left

-- the last bit of a byte, with the settings after it
abbrev pub settled : Port → Settings → Port
settled t u = with_settings (with_bits (at_levels t t.csb true) 0 0) u t.in_use

-- then a new instruction
abbrev pub restarted : Port → Port
restarted q = with_settings (at_address (with_phase q Instruction) 0 false q.left) q.settings (in_use_of q.settings)

-- or more data
abbrev pub going : Port → ℕ → ℕ → Port
going q address left = at_address q address q.read left

start_form : {c : Chip} {t : Port} → Form c t → (x : ℕ) → t.csb ≡ true → csb_of x ≡ false → eqb t.left 0 ≡ true → step_of c t x ≡ started t (bit_at x 1)
unfolding step_of
start_form (rests k t) x up low none = rw low refl
start_form (instructs k n v t u h g) x up low none = absurd (false≢true up)
start_form (has_data k n v a r l t u h g f d) x up low none = absurd (false≢true up)
start_form (stalls k a r l t u f e d) x up low none = absurd (false≢true (ap (λ (j : ℕ). is_counted j) (sym (eqb-true l 0 none)) ∙ e))
start_form (passes k t e) x up low none = absurd (false≢true up)

module _ (c : Chip) (t : Port) (x : ℕ) where
  -- CSB falls
  module _ (up : t.csb ≡ true) (low : csb_of x ≡ false) where
    pub goes_on : eqb t.left 0 ≡ false → (step_of c t x ≡ at_levels t false (bit_at x 1)) × (event_of c t x ≡ Nothing)
    unfolding step_of event_of
    goes_on some = (rw (up, low, some) refl, rw up refl)

    pub starts : sound_port c t ≡ true → eqb t.left 0 ≡ true → (step_of c t x ≡ started t (bit_at x 1)) × (event_of c t x ≡ Nothing)
    unfolding event_of
    starts f none = (start_form (sound_form c t f) x up low none, rw up refl)

  -- CSB rises
  module _ (down : t.csb ≡ false) (high : csb_of x ≡ true) where
    pub stalls_here : may_stall t ≡ true → (step_of c t x ≡ at_levels t true (bit_at x 1)) × (event_of c t x ≡ Nothing)
    unfolding step_of event_of
    stalls_here m = (rw (down, high, m) refl, rw (down, high, m) refl)

    pub ends : may_stall t ≡ false → (step_of c t x ≡ resting (bit_at x 1) t.settings) × (event_of c t x ≡ end_event t)
    unfolding step_of event_of
    ends m = (rw (down, high, m) refl, rw (down, high, m) refl)

  -- a bit that is not one of data
  pub no_byte : takes_bit t x ≡ true → is_data t.phase ≡ false → event_of c t x ≡ Nothing
  unfolding event_of bit_event
  no_byte b d = rw (b, d) refl

-- SCLK rises: the last bit of an instruction
instruction_form : {c : Chip} {t : Port} → Form c t → (x : ℕ) → takes_bit t x ≡ true → t.phase ≡ Instruction → t.bits ≡ 15
    → step_of c t x ≡ entered c (shifted_in t.in_use.lsb_first t.value t.bits (bit_at x 2)) t.settings t.in_use
unfolding step_of with_instruction_bit
instruction_form (rests k t) x b d e = let z = ap last_of d in absurd (omega (arith, z))
instruction_form (instructs k n v t u g f) x b d e = rw (b, e) refl
instruction_form (has_data k n v a r l t u g f q w) x b d e = let z = ap last_of d in absurd (omega (arith, z))
instruction_form (stalls k a r l t u f e d) x b q z = absurd (false≢true b)
instruction_form (passes k t e) x b d z = let y = ap last_of d in absurd (omega (arith, y))

-- the last bit of a byte
byte_form : {c : Chip} {t : Port} → Form c t → (x : ℕ) → takes_bit t x ≡ true → t.phase ≡ Data → t.bits ≡ 7
    → let v = shifted_in t.in_use.lsb_first t.value t.bits (bit_at x (source_line c t)) in
    (event_of c t x ≡ Whole t.read t.address v) × (step_of c t x ≡ after_byte c t (settings_on_byte c t v))
unfolding event_of bit_event step_of with_data_bit
byte_form (rests k t) x b d n = let z = ap last_of d in absurd (omega (arith, z))
byte_form (instructs k n v t u g f) x b d e = let z = ap last_of d in absurd (omega (arith, z))
byte_form {c} (has_data k n v a r l t u g f q w) x b d e =
    let line = on_line (r && (counting c u).sdo_active) x in
    (rw (b, e, line) refl, rw (b, e, line) refl)
byte_form (stalls k a r l t u f e d) x b q z = absurd (false≢true b)
byte_form (passes k t e) x b d n = let z = ap last_of d in absurd (omega (arith, z))

-- a bit that is passed over
passed_form : {c : Chip} {t : Port} → Form c t → (x : ℕ) → takes_bit t x ≡ true → t.phase ≡ Rest → step_of c t x ≡ at_levels t t.csb true
unfolding step_of
passed_form (rests k t) x b d = absurd (false≢true b)
passed_form (instructs k n v t u g f) x b d = let z = ap last_of d in absurd (omega (arith, z))
passed_form (has_data k n v a r l t u g f q w) x b d = let z = ap last_of d in absurd (omega (arith, z))
passed_form (stalls k a r l t u f e d) x b q = absurd (false≢true b)
passed_form (passes k t e) x b d =
    let h = and_left (not (csb_of x) && not k) (sclk_of x) b in
    rw (b, not-true (csb_of x) (and_left (not (csb_of x)) (not k) h), and_right (not (csb_of x) && not k) (sclk_of x) b) refl

-- a newer chip counts no bytes
none_left : (c : Chip) {t : Port} → Form c t → is_newer c ≡ true → t.left ≡ 0
none_left Newer (rests k t) h = refl
none_left Newer (instructs k n v t u g f) h = refl
none_left Newer (has_data k n v a r l t u g f q w) h = eqb-true l 0 w
none_left Newer (stalls k a r l t u f e d) h = eqb-true l 0 d
none_left Newer (passes k t e) h = refl
none_left (Older part top) g h = absurd (false≢true h)

module _ (c : Chip) (t : Port) (f : sound_port c t ≡ true) where
  pub newer_none_left : is_newer c ≡ true → t.left ≡ 0
  newer_none_left = none_left c (sound_form c t f)

  module _ (x : ℕ) (b : takes_bit t x ≡ true) where
    pub instruction_whole : t.phase ≡ Instruction → t.bits ≡ 15
        → step_of c t x ≡ entered c (shifted_in t.in_use.lsb_first t.value t.bits (bit_at x 2)) t.settings t.in_use
    instruction_whole = instruction_form (sound_form c t f) x b

    pub byte_whole : t.phase ≡ Data → t.bits ≡ 7
        → let v = shifted_in t.in_use.lsb_first t.value t.bits (bit_at x (source_line c t)) in
        (event_of c t x ≡ Whole t.read t.address v) × (step_of c t x ≡ after_byte c t (settings_on_byte c t v))
    byte_whole = byte_form (sound_form c t f) x b

    pub bit_passed : t.phase ≡ Rest → step_of c t x ≡ at_levels t t.csb true
    bit_passed = passed_form (sound_form c t f) x b

-- What a whole instruction enters, field by field.
pub enters_newer : (c : Chip) (t : Port) (v : ℕ) → is_newer c ≡ true → t.csb ≡ false → t.left ≡ 0
    → entered c v t.settings t.in_use ≡ instructed t v (v % 0x8000) t.left
unfolding entered
enters_newer Newer t v n low none = rw (low, none) refl
enters_newer (Older part top) t v n low none = absurd (false≢true n)

pub enters_older : (c : Chip) (t : Port) (v : ℕ) → is_newer c ≡ false → t.csb ≡ false → reaches c (v % 0x2000) ≡ true
    → entered c v t.settings t.in_use ≡ instructed t v (v % 0x2000) (v / 0x2000 % 4 + 1)
unfolding entered
enters_older Newer t v n low w = absurd (false≢true (sym n))
enters_older (Older part top) t v n low w = rw (w, low) refl

pub enters_none : (c : Chip) (t : Port) (v : ℕ) → is_newer c ≡ false → t.csb ≡ false → reaches c (v % 0x2000) ≡ false
    → entered c v t.settings t.in_use ≡ idle t.csb true t.settings
unfolding entered
enters_none Newer t v n low w = absurd (false≢true (sym n))
enters_none (Older part top) t v n low w = rw (w, low) refl

-- What comes after a whole byte, field by field.
pub after_single : (c : Chip) (t : Port) (u : Settings) → is_newer c ≡ true → t.csb ≡ false → t.left ≡ 0 → t.in_use.single_instruction ≡ true
    → after_byte c t u ≡ restarted (settled t u)
after_single Newer t u n low none o = rw (o, low, none) refl
after_single (Older part top) t u n low none o = absurd (false≢true n)

pub after_next : (c : Chip) (t : Port) (u : Settings) → is_newer c ≡ true → t.csb ≡ false → t.phase ≡ Data → t.left ≡ 0 → t.in_use.single_instruction
    ≡ false
    → after_byte c t u ≡ going (settled t u) (next_address t.in_use.ascending t.address) t.left
after_next Newer t u n low d none o = rw (o, low, d, none) refl
after_next (Older part top) t u n low d none o = absurd (false≢true n)

pub after_run : (c : Chip) (t : Port) (u : Settings) → is_newer c ≡ false → t.csb ≡ false → t.phase ≡ Data
    → runs_out c t.left t.address t.in_use.lsb_first ≡ false
    → after_byte c t u ≡ going (settled t u) (next_address t.in_use.lsb_first t.address) (cond (is_counted t.left) (t.left - 1) t.left)
after_run Newer t u n low d o = absurd (false≢true (sym n))
after_run (Older part top) t u n low d o = rw (o, low, d) refl

pub after_run_ends : (c : Chip) (t : Port) (u : Settings) → is_newer c ≡ false → t.csb ≡ false
    → runs_out c t.left t.address t.in_use.lsb_first ≡ true → after_byte c t u ≡ idle t.csb true u
after_run_ends Newer t u n low o = absurd (false≢true (sym n))
after_run_ends (Older part top) t u n low o = rw (o, low) refl

-- The settings after a whole byte: only a write up to 0x0004 can change them.
pub settings_changed : (t u : Settings) (r b : Bool) → (not r && b) ≡ true → u ≡ cond r t u
settings_changed t u true b h = absurd (false≢true h)
settings_changed t u false b h = refl

pub settings_kept : (c : Chip) (t : Settings) (r : Bool) (a v : ℕ) {n : ℕ} → (not r && leb a n) ≡ false → 4 ≤ n → t ≡ cond r t (settings_after c t a v)
unfolding newer_after older_after
settings_kept c t true a v h g = refl
settings_kept Newer t false a v {n} h g =
    let l = leb-false a n h in
    rw (ne_eqb a 0 (λ (z : a ≡ 0). omega arith), ne_eqb a 1 (λ (z : a ≡ 1). omega arith)) refl
settings_kept (Older part top) t false a v {n} h g =
    let l = leb-false a n h in
    rw (ne_eqb a 0 (λ (z : a ≡ 0). omega arith), ne_eqb a 4 (λ (z : a ≡ 4). omega arith)) refl

-- the line: only in data can the port be reading
counted_line : (c : Chip) (r : Bool) (u : InUse) → ◌≡◌ {A = ℕ} (cond ((r && u.sdo_active) && is_newer c) 3 2) (cond (r && (counting c u).sdo_active) 3 2)
counted_line Newer r u = ap (λ (b : Bool). cond {A = ℕ} b 3 2) (and-true (r && u.sdo_active))
counted_line (Older part top) true u = each (λ (n : ℕ). n ≡ 2) (u.sdo_active && false) (λ e. absurd (false≢true (sym (and-false u.sdo_active) ∙ e)))
    (λ e. refl)
counted_line (Older part top) false u = refl

-- as the code finds it, in data
pub data_line_lem : (c : Chip) (r : Bool) (u : InUse) {newer : Bool} {line : ℕ} → newer ≡ is_newer c → line ≡ cond ((r && u.sdo_active) && newer) 3 2 → line
    ≡ cond (r && (counting c u).sdo_active) 3 2
data_line_lem c r u en el = el ∙ ap (λ (b : Bool). cond {A = ℕ} ((r && u.sdo_active) && b) 3 2) en ∙ counted_line c r u

line_form : {c : Chip} {t : Port} → Form c t → cond ((t.read && t.in_use.sdo_active) && is_newer c) 3 2 ≡ source_line c t
line_form (rests k t) = refl
line_form (instructs k n v t u h g) = refl
line_form {c} (has_data k n v a r l t u h g f d) = counted_line c r u
line_form {c} (stalls k a r l t u f e d) = counted_line c r u
line_form (passes k t e) = refl

-- at rest, with the select high
rest_form : {c : Chip} {t : Port} → Form c t → t.csb ≡ true → eqb t.left 0 ≡ true → source_line c t ≡ 2
rest_form (rests k t) up none = refl
rest_form (instructs k n v t u h g) up none = refl
rest_form (has_data k n v a r l t u h g f d) up none = absurd (false≢true up)
rest_form (stalls k a r l t u f e d) up none = absurd (false≢true (ap (λ (j : ℕ). is_counted j) (sym (eqb-true l 0 none)) ∙ e))
rest_form (passes k t e) up none = refl

pub rest_line : (c : Chip) (t : Port) → sound_port c t ≡ true → t.csb ≡ true → eqb t.left 0 ≡ true → source_line c t ≡ 2
rest_line c t f = rest_form (sound_form c t f)

pub line_sound : (c : Chip) (t : Port) → sound_port c t ≡ true → cond ((t.read && t.in_use.sdo_active) && is_newer c) 3 2 ≡ source_line c t
line_sound c t f = line_form (sound_form c t f)

-- the phase by the bits before the last, and back
phase_back : (p : Phase) → phase_of_last (last_of p) ≡ p
phase_back Rest = refl
phase_back Instruction = refl
phase_back Data = refl

phase_by : (p : Phase) {last : ℕ} → last ≡ last_of p → phase_of_last last ≡ p
phase_by p e = ap phase_of_last e ∙ phase_back p

pub sized_by : (p : Phase) {last : ℕ} → last ≡ last_of p → last ≡ last_of (phase_of_last last)
sized_by p e = e ∙ sym (ap last_of (phase_by p e))

pub phased_by : (t : Port) {last : ℕ} → last ≡ last_of t.phase → with_phase t (phase_of_last last) ≡ t
phased_by t e = ap (with_phase t) (phase_by t.phase e)

pub data_by_last : (last : ℕ) → is_data (phase_of_last last) ≡ eqb last 7
data_by_last last = by (eqb last 15) (eqb last 7) refl refl
  where
    by : (a b : Bool) → eqb last 15 ≡ a → eqb last 7 ≡ b → is_data (cond a Instruction (cond b Data Rest)) ≡ b
    by true true e f = absurd (omega (arith, eqb-true last 15 e, eqb-true last 7 f))
    by true false e f = refl
    by false true e f = refl
    by false false e f = refl
