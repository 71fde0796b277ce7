-- A sample with the same CSB and SCLK as before changes nothing and completes nothing, on any chip.
use Prim.Native.Nat.{ℕ, ◌+◌, ◌≤◌}
use mathlib.Core.Path.{◌≡◌, refl, sym, ap, ◌∙◌}
use mathlib.Core.Bool.{Bool, true, false, not, ◌&&◌, and-false}
use mathlib.Core.List.{List, ◌++◌}
use native.Mathlib.Omega.{arith}
use native.Mathlib.Nat.{zero-add}
use lib.Dec.{leb, ltb, eqb}
use lib.ListN.{length}
use borrow.Author.Tests.{le-leb}
use Rattle.base_bits.proofs.Cases.{each}
use Rattle.base_chip.specs.declared.Chip.{Chip}
use Rattle.base_chip.specs.declared.Chip.TheVariants.{Newer, Older}
use Rattle.bus_settings.specs.declared.Settings.{Settings}
use Rattle.bus_settings.specs.declared.InUse.{InUse}
use Rattle.bus_session.specs.declared.Phase.{Phase}
use Rattle.bus_session.specs.declared.Phase.TheVariants.{Rest, Instruction, Data}
use Rattle.bus_session.specs.declared.Port.{Port}
use Rattle.bus_session.specs.declared.Event.{Event}
use Rattle.bus_session.specs.declared.Event.TheVariants.{Nothing}
use Rattle.bus_session.specs.State.{at_levels, with_levels, may_stall}
use Rattle.bus_session.specs.Step.{csb_of, sclk_of, frame_starts, takes_bit, frame_ends, entered, with_instruction_bit, with_data_bit, in_use_on, run_ends, with_bit, step_of}
use Rattle.bus_session.specs.Event.{event_of}
use Rattle.read_records.specs.Records.{record_of, records_in}
use Rattle.read_records.specs.BanksAfter.{banks_after, armed_after, touched_after}
use Rattle.read_run.specs.Reading.{ReaderState, event_at, reader_state_after, run_of, records_of, record_count}
use Rattle.read_refusals.specs.Numbers.{samples_good, read_number}
use Rattle.read_calls.specs.Calls.{read_of}
use Rattle.guarantees.specs.Repeated.{Slower, end, kept, again, RepeatedSamples, RepeatedCalls}
use Rattle.guarantees.proofs.Calls.{calls_run, calls_records}

-- ---- the last levels of the next port are those of the sample

pub record Levels (csb sclk : Bool) (p : Port) : Type 0 where
  pub low : p.csb ≡ csb
  pub clock : p.sclk ≡ sclk

entered_levels : (c : Chip) (v : ℕ) (t : Settings) (u : InUse) → Levels false true (entered c v t u)
unfolding entered
entered_levels Newer v t u = record { low = refl; clock = refl }
entered_levels (Older part top) v t u =
    each (Levels false true) (leb _ top) (λ e. record { low = refl; clock = refl }) (λ e. record { low = refl; clock = refl })

bit_levels : (c : Chip) (ph : Phase) (p : Port) (x : ℕ) → csb_of x ≡ false → sclk_of x ≡ true → Levels false true (with_bit c ph p x)
unfolding with_instruction_bit with_data_bit
bit_levels c Rest p x e f = record { low = e; clock = f }
bit_levels c Instruction p x e f = each (Levels false true) (ltb p.bits 15) (λ e. record { low = refl; clock = refl }) (λ e. entered_levels c _ _ _)
bit_levels c Data p x e f =
    each (Levels false true) (ltb p.bits 7) (λ e. record { low = refl; clock = refl })
    (λ e. each (Levels false true) (in_use_on c p).single_instruction (λ e. record { low = refl; clock = refl })
    (λ e. each (Levels false true) (run_ends c p) (λ e. record { low = refl; clock = refl }) (λ e. record { low = refl; clock = refl })))

pub step_levels : (c : Chip) (p : Port) (x : ℕ) → Levels (csb_of x) (sclk_of x) (step_of c p x)
unfolding step_of
step_levels c p x = by (csb_of x) (sclk_of x) p.csb p.sclk refl refl refl refl
  where
    by : (a b d e : Bool) → csb_of x ≡ a → sclk_of x ≡ b → p.csb ≡ d → p.sclk ≡ e → Levels (csb_of x) (sclk_of x) (step_of c p x)
    by true b true e ea eb ed ee = rw (ea, ed) (record { low = refl; clock = refl })
    by true b false e ea eb ed ee =
        rw (ea, ed) (each (Levels true (sclk_of x)) (not (may_stall p)) (λ q. record { low = refl; clock = refl }) (λ q. record { low = refl; clock = refl }))
    by false b true e ea eb ed ee =
        rw (ea, ed) (each (Levels false (sclk_of x)) (eqb p.left 0) (λ q. record { low = refl; clock = refl }) (λ q. record { low = refl; clock = refl }))
    by false true false false ea eb ed ee = rw (ea, eb, ed, ee) (bit_levels c p.phase _ x ea eb)
    by false true false true ea eb ed ee = rw (ea, ed, ee) (record { low = refl; clock = refl })
    by false false false e ea eb ed ee = rw (ea, eb, ed, and-false) (record { low = refl; clock = refl })

-- ---- a sample that repeats them

pub port_again : (c : Chip) (p : Port) (x : ℕ) → csb_of x ≡ p.csb → sclk_of x ≡ p.sclk → (step_of c p x ≡ p) × (event_of c p x ≡ Nothing)
unfolding step_of event_of
port_again c p x e f = by p.csb p.sclk refl refl
  where
    levels : with_levels p x ≡ p
    levels = λ i. at_levels p (e i) (f i)

    by : (a b : Bool) → p.csb ≡ a → p.sclk ≡ b → (step_of c p x ≡ p) × (event_of c p x ≡ Nothing)
    by true b ea eb =
        let s : frame_starts p x ≡ false = rw (e, ea) in
        let t : takes_bit p x ≡ false = rw ea in
        let n : frame_ends p x ≡ false = rw ea in
        (rw (s, t, n) levels, rw (t, n) refl)
    by false true ea eb =
        let s : frame_starts p x ≡ false = rw ea in
        let t : takes_bit p x ≡ false = rw (eb, and-false) in
        let n : frame_ends p x ≡ false = rw (e, ea) in
        (rw (s, t, n) levels, rw (t, n) refl)
    by false false ea eb =
        let s : frame_starts p x ≡ false = rw ea in
        let t : takes_bit p x ≡ false = rw (f, eb, and-false) in
        let n : frame_ends p x ≡ false = rw (e, ea) in
        (rw (s, t, n) levels, rw (t, n) refl)

-- of the world, nothing changes
state_again : (c : Chip) (m : List ℕ) (w : ReaderState) (x : ℕ) → csb_of x ≡ w.session.port.csb → sclk_of x ≡ w.session.port.sclk
    → (reader_state_after c m w x ≡ w) × (event_at c w x ≡ Nothing)
unfolding banks_after armed_after touched_after
state_again c m w x e f =
    let q = port_again c w.session.port x e f in (
      λ i. record {
        session = record { port = q.0 i; armed = armed_still q.1 i };
        banks = banks_still q.1 i;
        touched = words_still q.1 i;
      },
      q.1,
    )
  where
    armed_still : {v : Event} → v ≡ Nothing → armed_after c m w.session.armed w.banks v ≡ w.session.armed
    armed_still z = rw z refl

    banks_still : {v : Event} → v ≡ Nothing → banks_after c m w.session.armed w.banks v ≡ w.banks
    banks_still z = rw z refl

    words_still : {v : Event} → v ≡ Nothing → touched_after c m w.touched w.banks v ≡ w.touched
    words_still z = rw z refl

-- ---- two recordings

-- what both leave
record Alike (c : Chip) (m : List ℕ) (w : ReaderState) (xs ys : List ℕ) : Type 0 where
  state : run_of c m w xs ≡ run_of c m w ys
  records : records_of c m w xs ≡ records_of c m w ys
  count : record_count c w.session.port xs ≡ record_count c w.session.port ys
  good : samples_good xs ≡ samples_good ys
  shorter : length xs ≤ length ys

nothing_recorded : (c : Chip) (m : List ℕ) (w : ReaderState) (v : Event) (after : ReaderState) (zs : List ℕ) → v ≡ Nothing → after ≡ w
    → record_of c m w.banks w.session.port.settings v ++ records_of c m after zs ≡ records_of c m w zs
unfolding record_of
nothing_recorded c m w v after zs z g = rw (z, g) refl

nothing_counted : (c : Chip) (w : ReaderState) (v : Event) (after : ReaderState) (zs : List ℕ) → v ≡ Nothing → after ≡ w
    → records_in v + record_count c after.session.port zs ≡ record_count c w.session.port zs
nothing_counted c w v after zs z g = rw (z, g) (zero-add _)

alike : {csb sclk : Bool} {xs ys : List ℕ} → Slower csb sclk xs ys → (c : Chip) (m : List ℕ) (w : ReaderState) → Levels csb sclk w.session.port
    → Alike c m w xs ys
unfolding run_of records_of record_count samples_good
alike end c m w l = record { state = refl; records = refl; count = refl; good = refl; shorter = omega arith }
alike (kept x s) c m w l =
    let a = alike s c m (reader_state_after c m w x) (step_levels c w.session.port x) in
    record {
      state = a.state;
      records = ap (λ (r : List ℕ). record_of c m w.banks w.session.port.settings (event_at c w x) ++ r) a.records;
      count = ap (λ (n : ℕ). records_in (event_at c w x) + n) a.count;
      good = ap (λ (g : Bool). leb x 15 && g) a.good;
      shorter = omega (arith, a.shorter);
    }
alike (again {ys = ys} y small e f s) c m w l =
    let a = alike s c m w l in
    let q = state_again c m w y (e ∙ sym l.low) (f ∙ sym l.clock) in
    record {
      state = a.state ∙ ap (λ (v : ReaderState). run_of c m v ys) (sym q.0);
      records = a.records ∙ sym (nothing_recorded c m w (event_at c w y) (reader_state_after c m w y) ys q.1 q.0);
      count = a.count ∙ sym (nothing_counted c w (event_at c w y) (reader_state_after c m w y) ys q.1 q.0);
      good = a.good ∙ sym (ap (λ (g : Bool). g && samples_good ys) (le-leb y 15 small));
      shorter = omega (arith, a.shorter);
    }

pub repeated_samples : RepeatedSamples
unfolding read_of read_number
repeated_samples c m w xs ys records s few =
    let a = alike s c m w (record { low = refl; clock = refl }) in
    let fewer : length xs ≤ 65536 = omega (arith, a.shorter) in
    rw (le-leb (length xs) 65536 fewer, le-leb (length ys) 65536 few, a.good, a.count, a.state, a.records) refl

-- ---- lists of calls

pub repeated_calls : RepeatedCalls
repeated_calls c m w calls slows s =
    let a = alike s c m w (record { low = refl; clock = refl }) in (
      calls_run c m w calls ∙ a.state ∙ sym (calls_run c m w slows),
      calls_records c m w calls ∙ a.records ∙ sym (calls_records c m w slows),
    )
