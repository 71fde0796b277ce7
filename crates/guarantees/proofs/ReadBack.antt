-- What the sender makes, read back: no number refuses it, what happens is the whole run, and its end puts the session at rest.
use Prim.Native.Nat.{ℕ, ◌+◌, ◌-◌, ◌*◌, ◌/◌, ◌≤◌, min}
use mathlib.Core.Path.{◌≡◌, refl, sym, ap, ◌∙◌}
use mathlib.Core.Bool.{Bool, true, false, cond}
use mathlib.Core.List.{List, [], ◌∷◌, ◌++◌, append-nil, map, foldl}
use native.Mathlib.Omega.{arith}
use lib.ListN.{length, length-append, take}
use lib.Seq.{take-length}
use Rattle.base_bits.specs.Bits.{bit_at}
use Rattle.base_bits.specs.Buffer.{filled}
use Rattle.base_sizes.specs.Sizes.{record_size}
use Rattle.base_chip.specs.declared.Chip.{Chip}
use Rattle.bus_settings.specs.declared.Settings.{Settings}
use Rattle.bus_session.specs.declared.Port.{Port}
use Rattle.bus_session.specs.State.{resting, sound_session}
use Rattle.bus_session.specs.Event.{event_of}
use Rattle.reg_write.specs.Rise.{rise_banks}
use Rattle.read_records.specs.Records.{record_of}
use Rattle.read_records.specs.BanksAfter.{banks_after, armed_after, touched_after}
use Rattle.read_records.proofs.Laws.{record_size_lem}
use Rattle.read_run.specs.Reading.{ReaderState, reader_state_after, run_of, records_of, record_count}
use Rattle.read_refusals.specs.Numbers.{read_number}
use Rattle.read_calls.specs.Calls.{read_of}
use Rattle.send_order.specs.Order.{Order, RunByte, is_read, is_single, run_bytes}
use Rattle.send_order.specs.Samples.{clocked, order_bits, samples_of}
use Rattle.guarantees.specs.AtRest.{AtRest, Accepted}
use Rattle.guarantees.specs.Book.{whole_bytes, armed_all, touched_all}
use Rattle.guarantees.specs.ReadBack.{settings_past, settings_left, banks_left, banks_raised, touched_left, records_left, ReadBack}
use Rattle.guarantees.proofs.Events.{events_of, settings_on, settings_step, Held, held_in, held_on, records_by, records_among, run_held, run_settings, run_records, run_count}
use Rattle.guarantees.proofs.Runs.{whole_of}
use Rattle.guarantees.proofs.Orders.{unraised, raised_last, order_events}
use Rattle.guarantees.proofs.Ending.{end_rests, no_run_left, end_no_record}
use Rattle.guarantees.proofs.Counts.{run_length, sample_count}
use Rattle.guarantees.proofs.Calls.{run_append, records_append, count_append}
use Rattle.guarantees.proofs.Done.{sound_run, rest_sound, no_refusal, good_samples, few_samples}
use Rattle.guarantees.proofs.Raise.{rest_disarmed, raise_settings, raise_banks, raise_touches_none, raise_disarms}

-- ---- what the bytes of a run leave

held_left : (c : Chip) (m : List ℕ) (read : Bool) (h : Held) (ps : List RunByte)
    → foldl (held_on c m) h (map (whole_of read) ps)
    ≡ record {
      armed = cond read h.armed (armed_all c m ps h.banks h.armed);
      banks = banks_left c m read h.banks ps;
      touched = touched_left c m read h.banks h.touched ps;
    }
unfolding banks_after armed_after touched_after banks_left armed_all touched_all
held_left c m true h [] = refl
held_left c m true h (p ∷ ps) = held_left c m true (held_on c m h (whole_of true p)) ps
held_left c m false h [] = refl
held_left c m false h (p ∷ ps) = held_left c m false (held_on c m h (whole_of false p)) ps

settings_left_lem : (c : Chip) (read : Bool) (t : Settings) (ps : List RunByte) → foldl (settings_on c) t (map (whole_of read) ps) ≡ settings_left c read t ps
unfolding settings_left
settings_left_lem c read t [] = refl
settings_left_lem c read t (p ∷ ps) = settings_left_lem c read (settings_past c read t p) ps

records_resumed :
    (c : Chip) (m : List ℕ) (read : Bool) (h : Held) (t : Settings) (ps : List RunByte)
    → records_by c m h t (map (whole_of read) ps) ≡ records_left c m read h.banks t ps
unfolding records_by records_left banks_after
records_resumed c m read h t [] = refl
records_resumed c m read h t (p ∷ ps) =
    ap (λ (l : List ℕ). record_of c m h.banks t (whole_of read p) ++ l) (records_resumed c m read (held_on c m h (whole_of read p)) (settings_past c read t p) ps)

-- a record for each byte
count_left : (read : Bool) (ps : List RunByte) → records_among (map (whole_of read) ps) ≡ length ps
unfolding records_among
count_left read [] = refl
count_left read (p ∷ ps) = omega (arith, count_left read ps)

-- ---- the whole run

whole_by :
    (single : Bool) (k : ℕ)
    → min k (cond single ((cond single (3 + 48 * k) (35 + 16 * k) - 1 - 1) / 48) ((cond single (3 + 48 * k) (35 + 16 * k) - 1 - 33) / 16)) ≡ k
whole_by true k = omega arith
whole_by false k = omega arith

empty : (l : List ℕ) → length l ≡ 0 → l ≡ []
empty [] e = refl
empty (x ∷ l) e = absurd (omega (arith, e))

module _ (c : Chip) (m : List ℕ) (w : ReaderState) (o : Order) (room : ℕ) (rest : AtRest c m w o) (accepted : Accepted c o room) where
  -- the samples but the last
  body_length : length (samples_of c o) ≡ length (unraised c o) + 1
  body_length = ap length (raised_last c o) ∙ length-append (unraised c o) (0x01 ∷ [])

  all_whole : whole_bytes c o (length (unraised c o)) ≡ length (run_bytes c o)
  unfolding whole_bytes
  all_whole =
      let size : length (unraised c o) ≡ cond (is_single c o) (3 + 48 * o.count) (35 + 16 * o.count) - 1 =
      omega (arith, body_length, sample_count c o room accepted) in
      rw (size, run_length c o room accepted) (whole_by (is_single c o) o.count)

  run_whole : events_of c w.session.port (unraised c o) ≡ map (whole_of (is_read o)) (run_bytes c o)
  run_whole =
      ap (events_of c w.session.port) (sym (take-length (unraised c o)))
      ∙ order_events c m w o room rest accepted (length (unraised c o))
      ∙ ap (map (whole_of (is_read o))) (ap (λ (n : ℕ). take n (run_bytes c o)) all_whole ∙ take-length (run_bytes c o))

  -- what is reached before the last sample, and by it
  abbrev before : ReaderState
  before = run_of c m w (unraised c o)

  at_end : run_of c m w (samples_of c o) ≡ reader_state_after c m before 0x01
  unfolding run_of
  at_end = ap (run_of c m w) (raised_last c o) ∙ run_append c m w (unraised c o) (0x01 ∷ [])

  before_sound : sound_session c before.session ≡ true
  before_sound = sound_run c m w (unraised c o) rest.sound

  settings_end : (run_of c m w (samples_of c o)).session.port.settings ≡ settings_left c (is_read o) w.session.port.settings (run_bytes c o)
  unfolding bit_at
  settings_end =
      ap (λ (v : ReaderState). v.session.port.settings) at_end
      ∙ settings_step c before.session.port 0x01
      ∙ raise_settings 0x01 refl c before.session.port before.session.port.settings
      ∙ run_settings c m w (unraised c o)
      ∙ ap (foldl (settings_on c) w.session.port.settings) run_whole
      ∙ settings_left_lem c (is_read o) w.session.port.settings (run_bytes c o)

  -- the raise puts the session at rest, and its settings follow from what happened
  port_end : (run_of c m w (samples_of c o)).session.port ≡ resting false (settings_left c (is_read o) w.session.port.settings (run_bytes c o))
  unfolding samples_of run_of
  port_end = rests ∙ ap (resting false) (sym (ap (λ (s : Port). s.settings) rests) ∙ settings_end)
    where
      rests : (run_of c m w (samples_of c o)).session.port ≡ resting false (run_of c m w (0x00 ∷ clocked (order_bits c o))).session.port.settings
      rests =
          ap (λ (v : ReaderState). v.session.port) (run_append c m w (0x00 ∷ clocked (order_bits c o)) (0x00 ∷ 0x01 ∷ []))
          ∙ end_rests c (run_of c m w (0x00 ∷ clocked (order_bits c o))).session.port (no_run_left c m w o room rest accepted)

  pub session_end : (run_of c m w (samples_of c o)).session
      ≡ record { port = resting false (settings_left c (is_read o) w.session.port.settings (run_bytes c o)); armed = false }
  unfolding bit_at
  session_end =
      λ i. record { port = port_end i; armed = (ap (λ (v : ReaderState). v.session.armed) at_end ∙ raise_disarms 0x01 refl c m before before_sound) i }

  pub banks_end : (run_of c m w (samples_of c o)).banks ≡ banks_raised c m (is_read o) w.banks (run_bytes c o)
  unfolding bit_at
  banks_end =
      ap (λ (v : ReaderState). v.banks) at_end
      ∙ raise_banks 0x01 refl c m before before_sound
      ∙ ap (λ (h : Held). rise_banks c m h.armed h.banks)
      (run_held c m w (unraised c o) ∙ ap (foldl (held_on c m) (held_in w)) run_whole ∙ held_left c m (is_read o) (held_in w) (run_bytes c o))
      ∙ ap (λ (k : Bool). rise_banks c m (cond (is_read o) k (armed_all c m (run_bytes c o) w.banks k)) (banks_left c m (is_read o) w.banks (run_bytes c o)))
      (rest_disarmed c w.session rest.sound rest.at_rest)

  pub touched_end : (run_of c m w (samples_of c o)).touched ≡ touched_left c m (is_read o) w.banks w.touched (run_bytes c o)
  unfolding bit_at
  touched_end =
      ap (λ (v : ReaderState). v.touched) at_end
      ∙ raise_touches_none 0x01 refl c m before
      ∙ ap (λ (h : Held). h.touched)
      (run_held c m w (unraised c o) ∙ ap (foldl (held_on c m) (held_in w)) run_whole ∙ held_left c m (is_read o) (held_in w) (run_bytes c o))

  pub count_end : record_count c w.session.port (samples_of c o) ≡ o.count
  unfolding record_count
  count_end =
      ap (record_count c w.session.port) (raised_last c o)
      ∙ count_append c m w (unraised c o) (0x01 ∷ [])
      ∙ omega (
        arith,
        end_no_record c m w o room rest accepted,
        run_count c w.session.port (unraised c o) ∙ ap records_among run_whole ∙ count_left (is_read o) (run_bytes c o),
        run_length c o room accepted,
      )

  pub records_end : records_of c m w (samples_of c o) ≡ records_left c m (is_read o) w.banks w.session.port.settings (run_bytes c o)
  unfolding records_of
  records_end =
      ap (records_of c m w) (raised_last c o)
      ∙ records_append c m w (unraised c o) (0x01 ∷ [])
      ∙ ap (λ (l : List ℕ). records_of c m w (unraised c o) ++ (l ++ [])) none
      ∙ append-nil (records_of c m w (unraised c o))
      ∙ run_records c m w (unraised c o)
      ∙ ap (records_by c m (held_in w) w.session.port.settings) run_whole
      ∙ records_resumed c m (is_read o) (held_in w) w.session.port.settings (run_bytes c o)
    where
      none : record_of c m before.banks before.session.port.settings (event_of c before.session.port 0x01) ≡ []
      none =
          empty _
          (omega (
            arith,
            record_size_lem c m before.banks before.session.port.settings
                (event_of c before.session.port 0x01),
            end_no_record c m w o room rest accepted,
          ))

  not_refused : (size : ℕ) → record_size * o.count ≤ size → read_number c m w (samples_of c o) size ≡ 0
  not_refused size enough =
      no_refusal c m w (samples_of c o) size rest.good_map rest.top (rest_sound c m w o rest) (good_samples c o)
      (omega (arith, few_samples c o room accepted)) (omega (arith, count_end))

pub read_back : ReadBack
unfolding read_of
read_back c m o room w records rest accepted enough =
    rw (not_refused c m w o room rest accepted (length records) enough)
    (λ i. record {
      number = 0;
      state = record {
        session = session_end c m w o room rest accepted i;
        banks = banks_end c m w o room rest accepted i;
        touched = touched_end c m w o room rest accepted i;
      };
      count = count_end c m w o room rest accepted i;
      records = filled (records_end c m w o room rest accepted i) records;
    })
