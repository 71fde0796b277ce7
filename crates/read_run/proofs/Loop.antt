-- One turn of the loop: samples up to a stop, and the sample there.
use mathlib.Core.Path.{◌≡◌, refl, sym, ◌∙◌, ap, subst}
use mathlib.Core.Bool.{Bool, true, false, cond, ◌&&◌}
use mathlib.Core.List.{List}
use Prim.Native.Nat.{ℕ, ◌+◌, ◌%◌, ◌<◌, ◌≤◌}
use native.Mathlib.Omega.{arith}
use lib.Dec.{eqb}
use lib.ListN.{length, get_or}
use borrow.Author.Tests.{eq-eqb, ne_eqb}
use Rattle.base_bits.specs.Bits.{bit_at}
use Rattle.base_chip.specs.declared.Chip.{Chip}
use Rattle.base_chip.specs.Chip.{is_newer}
use Rattle.bus_session.specs.declared.Phase.TheVariants.{Rest}
use Rattle.bus_session.specs.declared.Port.{Port}
use Rattle.bus_session.specs.declared.Session.{Session}
use Rattle.bus_session.specs.declared.Event.{Event}
use Rattle.bus_session.specs.declared.Event.TheVariants.{Nothing, Whole}
use Rattle.bus_session.specs.State.{resting, is_data, is_counted, sound_port}
use Rattle.bus_session.specs.Step.{csb_of, takes_bit, value_with, settings_on_byte, after_byte, step_of}
use Rattle.bus_session.specs.Event.{end_event, event_of}
use Rattle.bus_session.proofs.Laws.{fit_sound, few_bits, byte_lt}
use Rattle.bus_trace.specs.declared.scan.Progress.{Progress}
use Rattle.bus_trace.specs.Path.{Quiet, still, more, NextPath, one}
use Rattle.bus_trace.specs.Progress.{last_of, source_line}
use Rattle.bus_trace.specs.Scan.{ScanAfter, ProgressBounds}
use Rattle.bus_trace.proofs.Advance.{csb_low, csb_high, own, bit_taken_lem, line_lt}
use Rattle.bus_trace.proofs.Onward.{start_standing}
use Rattle.reg_banks.specs.Banks.{banks}
use Rattle.read_records.specs.declared.EventOutcome.{EventOutcome}
use Rattle.read_records.specs.Promises.{end_of}
use Rattle.read_run.specs.declared.RunEnd.{RunEnd}
use Rattle.read_run.specs.declared.scanning.ScanPort.{ScanPort}
use Rattle.read_run.specs.Reading.{ReaderState, reader_state, reader_state_of}
use Rattle.read_run.specs.ScanPort.{phase_of_last, scanned_port, Tracks, scan_port, progress_at, scanned_to, scan_levels, scan_start, scan_rest}
use Rattle.read_run.specs.Promises.{none_told, run_end, RunBefore, RunAfter, PassAfter, BitBounds, InFrame, EnterBefore, EnterAfter, ByteBounds, WholeByteBefore, WholeByteAfter}
use Rattle.read_run.proofs.Laws.{still_reading}
use Rattle.read_run.proofs.Counting.{still_counting}
use Rattle.read_run.proofs.Running.{Running, running_begun, running_on, running_ended}
use Rattle.read_run.proofs.Steps.{goes_on, starts, stalls_here, ends, no_byte, newer_none_left, instruction_whole, byte_whole, bit_passed, rest_line, line_sound, sized_by, phased_by, data_by_last}

running_quiet : {c : Chip} {storing : Bool} {m xs : List ℕ} {w₀ : ReaderState} {s t : Port} {armed : Bool} {act buf ws old new : List ℕ} {size i j : ℕ}
    → Running c storing m xs w₀ (reader_state_of s armed act buf ws) old new size i → Quiet c xs s i t j → Running c storing m xs w₀
    (reader_state_of t armed act buf ws) old new size j
running_quiet k q = record { counting = still_counting k.counting q; reading = λ p. still_reading (k.reading p) q }

-- i samples are passed: port s is reached, and what the last event left
pub record RunTo (c : Chip) (storing : Bool) (m xs : List ℕ) (w₀ : ReaderState) (old act buf ws new : List ℕ) (s : ScanPort) (told : EventOutcome)
    (i : ℕ) : Type 0 where
  pub running : Running c storing m xs w₀ (reader_state_of (scanned_port s) told.armed act buf ws) old new told.at i
  pub tracks : Tracks c s

-- and a scan has stopped there: with CSB high where it falls, and with CSB low where it rises or the last bit of a piece comes
pub record Stop (c : Chip) (storing : Bool) (m xs : List ℕ) (w₀ : ReaderState) (old act buf ws new : List ℕ) (s : ScanPort) (told : EventOutcome)
    (i : ℕ) : Type 0 where
  pub run : RunTo c storing m xs w₀ old act buf ws new s told i
  pub falls : s.port.csb ≡ true → i < length xs → csb_of (get_or xs i 0) ≡ false
  pub takes : s.port.csb ≡ false → i < length xs → get_or xs i 0 % 2 ≡ 0 → (s.port.bits ≡ s.last) × (takes_bit (scanned_port s) (get_or xs i 0) ≡ true)

-- before the first sample
module _ (t : Session) (newer : Bool) {s : ScanPort} {told : EventOutcome} (es : s ≡ scan_port newer t.port) (et : told ≡ none_told t.armed) where
  begins : (act buf ws : List ℕ) → reader_state_of (scanned_port s) told.armed act buf ws ≡ reader_state t act buf ws
  begins act buf ws = rw (es, et, phased_by t.port {last = last_of t.port.phase} refl) refl

  pub run_to_begun : {c : Chip} {storing : Bool} {m xs act buf ws old : List ℕ} → newer ≡ is_newer c
      → RunBefore c storing m (reader_state t act buf ws) xs old
      → RunTo c storing m xs (reader_state_of (scanned_port s) told.armed act buf ws) old act buf ws old s told 0
  run_to_begun {c} {storing} {m} {xs} {act} {buf} {ws} {old} en pre =
      let k = running_begun pre in
      let same = phased_by t.port {last = last_of t.port.phase} refl in
      record {
        running = rw (begins act buf ws, ap (λ (o : EventOutcome). o.at) et) k;
        tracks = rw es (record {
          sized = sized_by t.port.phase refl;
          line_is =
              ap (λ (b : Bool). cond {A = ℕ} ((t.port.read && t.port.in_use.sdo_active) && b) 3 2) en
              ∙ line_sound c t.port k.counting.sound ∙ ap (source_line c) (sym same);
        });
      }

  -- after the last
  pub run_to_ended : {c : Chip} {storing : Bool} {m xs act₀ buf₀ ws₀ act buf ws old new : List ℕ} {q : ScanPort} {took : EventOutcome} {i : ℕ} {r : RunEnd}
      → RunTo c storing m xs (reader_state_of (scanned_port s) told.armed act₀ buf₀ ws₀) old act buf ws new q took i → length xs ≤ i → r ≡ run_end q took
      → RunAfter c storing m (reader_state t act₀ buf₀ ws₀) xs old (reader_state r.session act buf ws) r.size new
  run_to_ended {c} {storing} {m} {xs} {act₀} {buf₀} {ws₀} {act} {buf} {ws} {old} {new} {q} {took} k g er =
      rw (er, sym (begins act₀ buf₀ ws₀)) (running_ended k.running g)

module _ {c : Chip} {storing : Bool} {m xs : List ℕ} {w₀ : ReaderState} {old act buf ws new : List ℕ} {s : ScanPort} {told : EventOutcome} {i : ℕ}
    (k : RunTo c storing m xs w₀ old act buf ws new s told i) (h : i < length xs) where
  pub start_stands : ProgressBounds xs s.last (progress_at s.port i)
  start_stands = start_standing c (scanned_port s) (progress_at s.port i) k.running.counting.sound (omega arith) refl refl refl k.tracks.sized

  pub line_small : s.line < 4
  line_small = rw k.tracks.line_is (line_lt c (scanned_port s))

  pub stop_at : {p : Progress} {q : ScanPort} → q ≡ scanned_to s p
      → ScanAfter xs s.port.csb s.line s.port.in_use.lsb_first s.last (progress_at s.port i) p
      → Stop c storing m xs w₀ old act buf ws new q told p.at
  stop_at {p} eq n =
      let t = k.tracks in
      let reached =
      n.carried (record { csb_is = refl; line_is = t.line_is; order_is = refl; last_is = t.sized })
      (own c {s = scanned_port s} (progress_at s.port i) k.running.counting.sound (omega arith) refl refl refl) in
      subst (λ (q : ScanPort). Stop c storing m xs w₀ old act buf ws new q told p.at) (sym eq) (record {
        run = record {
          running = running_quiet k.running reached.path;
          tracks = record { sized = t.sized; line_is = t.line_is };
        };
        falls = λ up g. csb_low (get_or xs p.at 0) (n.falls up g);
        takes = λ down g even. (
          (n.stopped down g even).0,
          bit_taken_lem c (scanned_port s) p (get_or xs p.at 0) down even reached.good (n.stopped down g even).1,
        );
      })

module _ {c : Chip} {storing : Bool} {m xs : List ℕ} {w₀ : ReaderState} {old act buf ws new : List ℕ} {s : ScanPort} {told : EventOutcome} {i : ℕ}
    (k : Stop c storing m xs w₀ old act buf ws new s told i) (h : i < length xs) where
  quiet_to : {r : ScanPort} → Tracks c r → (step_of c (scanned_port s) (get_or xs i 0) ≡ scanned_port r) × (event_of c (scanned_port s) (get_or xs i 0) ≡ Nothing)
      → RunTo c storing m xs w₀ old act buf ws new r told (i + 1)
  quiet_to t e =
      record {
        running = running_quiet k.run.running (subst (λ (t : Port). Quiet c xs (scanned_port s) i t (i + 1)) e.0 (more still h e.1));
        tracks = t;
      }

  next_to : {e : Event} {t : Port} → (step_of c (scanned_port s) (get_or xs i 0) ≡ t) × (event_of c (scanned_port s) (get_or xs i 0) ≡ e)
      → NextPath c xs (scanned_port s) i e t (i + 1)
  next_to {e} {t} g =
      subst (λ (t : Port). NextPath c xs (scanned_port s) i e t (i + 1)) g.0
      (subst (λ (e : Event). NextPath c xs (scanned_port s) i e (step_of c (scanned_port s) (get_or xs i 0)) (i + 1)) g.1 (one still h))

  -- CSB falls
  module _ (up : s.port.csb ≡ true) where
    pub turn_goes_on : (s.port.left ≡ 0 → ⊥) → RunTo c storing m xs w₀ old act buf ws new (scan_levels s false (bit_at (get_or xs i 0) 1)) told (i + 1)
    turn_goes_on n =
        quiet_to (record { sized = k.run.tracks.sized; line_is = k.run.tracks.line_is })
        (goes_on c (scanned_port s) (get_or xs i 0) up (k.falls up h) (ne_eqb s.port.left 0 n))

    pub turn_starts : s.port.left ≡ 0
        → RunTo c storing m xs w₀ old act buf ws new (scan_start (scan_levels s false (bit_at (get_or xs i 0) 1))) told (i + 1)
    turn_starts z =
        let sound = k.run.running.counting.sound in
        let none = eq-eqb s.port.left 0 z in
        quiet_to {r = scan_start (scan_levels s false (bit_at (get_or xs i 0) 1))}
        (record { sized = refl; line_is = k.run.tracks.line_is ∙ rest_line c (scanned_port s) sound up none })
        (starts c (scanned_port s) (get_or xs i 0) up (k.falls up h) sound none)

  -- CSB rises
  module _ (down : s.port.csb ≡ false) (high : get_or xs i 0 % 2 ≡ 1) where
    pub turn_stalls : (is_counted s.port.left && eqb s.port.bits 0) ≡ true
        → RunTo c storing m xs w₀ old act buf ws new (scan_levels s true (bit_at (get_or xs i 0) 1)) told (i + 1)
    turn_stalls y =
        quiet_to (record { sized = k.run.tracks.sized; line_is = k.run.tracks.line_is })
        (stalls_here c (scanned_port s) (get_or xs i 0) down (csb_high (get_or xs i 0) high) y)

    module _ (n : (is_counted s.port.left && eqb s.port.bits 0) ≡ false) where
      pub stop_ends : NextPath c xs (scanned_port s) i (end_of s.port.address s.port.bits (eqb s.last 7))
          (resting (bit_at (get_or xs i 0) 1) s.port.settings) (i + 1)
      unfolding end_event
      stop_ends =
          let f = ends c (scanned_port s) (get_or xs i 0) down (csb_high (get_or xs i 0) high) n in
          next_to (f.0, f.1 ∙ ap (end_of s.port.address s.port.bits) (data_by_last s.last))

      pub turn_ends : {act' buf' ws' new' : List ℕ} {took : EventOutcome}
          → PassAfter c storing m told.armed (banks act buf) ws s.port.settings (end_of s.port.address s.port.bits (eqb s.last 7)) new
          told.at (banks act' buf') ws' new' took
          → RunTo c storing m xs w₀ old act' buf' ws' new' (scan_rest (scan_levels s true (bit_at (get_or xs i 0) 1))) took (i + 1)
      turn_ends a = record { running = running_on k.run.running stop_ends a; tracks = record { sized = refl; line_is = refl } }

  -- SCLK rises
  module _ (down : s.port.csb ≡ false) (low : get_or xs i 0 % 2 ≡ 1 → ⊥) where
    even : get_or xs i 0 % 2 ≡ 0
    even = omega (arith, low)

    takes_bit_lem : takes_bit (scanned_port s) (get_or xs i 0) ≡ true
    takes_bit_lem = (k.takes down h even).1

    full : {n : ℕ} → s.last ≡ n → s.port.bits ≡ n
    full e = (k.takes down h even).0 ∙ e

    sound : sound_port c (scanned_port s) ≡ true
    sound = k.run.running.counting.sound

    framed : {newer : Bool} → newer ≡ is_newer c → InFrame c newer s
    framed e = record { newer_is = e; low = down; none_left = newer_none_left c (scanned_port s) sound }

    room : BitBounds s
    room =
        let f = fit_sound c (scanned_port s) sound in
        record { unfinished = few_bits (phase_of_last s.last) s.port.bits f.unfinished; small = f.small }

    -- the last bit of an instruction
    pub entering : {newer : Bool} → newer ≡ is_newer c → EnterBefore c newer s
    entering e = record { framed = framed e; room = room }

    pub turn_enters : s.last ≡ 15 → {r : ScanPort} → EnterAfter c s (get_or xs i 0) r → RunTo c storing m xs w₀ old act buf ws new r told (i + 1)
    turn_enters e a =
        quiet_to a.tracks (
          instruction_whole c (scanned_port s) sound (get_or xs i 0) takes_bit_lem (ap phase_of_last e) (full e) ∙ sym a.next_port,
          no_byte c (scanned_port s) (get_or xs i 0) takes_bit_lem (ap (λ (n : ℕ). is_data (phase_of_last n)) e),
        )

    -- the last bit of a byte
    module _ (e : s.last ≡ 7) where
      pub byte_bounds : ByteBounds s (get_or xs i 0)
      byte_bounds = record {
        room = room;
        line = rw k.run.tracks.line_is (line_lt c (scanned_port s));
        byte = byte_lt (scanned_port s) (bit_at (get_or xs i 0) s.line) (fit_sound c (scanned_port s) sound) (ap (λ (n : ℕ). is_data (phase_of_last n)) e);
      }

      pub byte_taken : {newer : Bool} → newer ≡ is_newer c → WholeByteBefore c newer s
      byte_taken n = record { framed = framed n; tracks = k.run.tracks; is_data_piece = e; near = (fit_sound c (scanned_port s) sound).near }

      module _ {v : ℕ} (ev : v ≡ value_with s.port (bit_at (get_or xs i 0) s.line)) where
        pub stop_whole : NextPath c xs (scanned_port s) i (Whole s.port.read s.port.address v)
            (after_byte c (scanned_port s) (settings_on_byte c (scanned_port s) v)) (i + 1)
        stop_whole =
            let w = byte_whole c (scanned_port s) sound (get_or xs i 0) takes_bit_lem (ap phase_of_last e) (full e) in
            let same = sym (ev ∙ ap (λ (n : ℕ). value_with s.port (bit_at (get_or xs i 0) n)) k.run.tracks.line_is) in
            next_to (
              w.1 ∙ ap (λ (n : ℕ). after_byte c (scanned_port s) (settings_on_byte c (scanned_port s) n)) same,
              w.0 ∙ ap (Whole s.port.read s.port.address) same,
            )

        pub turn_byte : {act' buf' ws' new' : List ℕ} {took : EventOutcome} {r : ScanPort}
            → PassAfter c storing m told.armed (banks act buf) ws s.port.settings (Whole s.port.read s.port.address v) new told.at
            (banks act' buf') ws' new' took
            → WholeByteAfter c s v r → RunTo c storing m xs w₀ old act' buf' ws' new' r took (i + 1)
        turn_byte {act'} {buf'} {ws'} {new'} {took} a b =
            record {
              running = subst (λ (t : Port). Running c storing m xs w₀ (reader_state_of t took.armed act' buf' ws') old new' took.at (i + 1))
                  (sym b.next_port) (running_on k.run.running stop_whole a);
              tracks = b.tracks;
            }

    -- a bit that is passed over
    pub turn_passes : (s.last ≡ 15 → ⊥) → (s.last ≡ 7 → ⊥)
        → RunTo c storing m xs w₀ old act buf ws new (scan_levels s s.port.csb true) told (i + 1)
    turn_passes n o =
        let d : phase_of_last s.last ≡ Rest = rw (ne_eqb s.last 15 n, ne_eqb s.last 7 o) refl in
        quiet_to (record { sized = k.run.tracks.sized; line_is = k.run.tracks.line_is }) (
          bit_passed c (scanned_port s) sound (get_or xs i 0) takes_bit_lem d,
          no_byte c (scanned_port s) (get_or xs i 0) takes_bit_lem (ap is_data d),
        )
