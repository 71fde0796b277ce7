-- Demand 3: the list of calls is one run of the samples that are to be read; before the raise the banks are those of the whole bytes, and the
-- raise moves what they have armed.
use Prim.Native.Nat.{ℕ, ◌≤◌}
use mathlib.Core.Path.{◌≡◌, refl, ap, sym, ◌∙◌}
use mathlib.Core.Bool.{Bool, true, false, and-false, false≢true}
use mathlib.Core.List.{List, [], ◌∷◌, ◌++◌, append_assoc}
use native.Mathlib.Decide.{dec_le}
use native.Mathlib.Omega.{arith}
use lib.ListN.{length, length-append, take}
use lib.Seq.{take_all, take-append-le}
use borrow.Author.Tests.{eqb-true}
use Rattle.base_bits.specs.Bits.{bit_at}
use Rattle.base_bits.proofs.Cases.{each}
use Rattle.base_chip.specs.declared.Chip.{Chip}
use Rattle.base_chip.specs.declared.Chip.TheVariants.{Newer, Older}
use Rattle.base_chip.specs.Chip.{is_newer}
use Rattle.bus_session.specs.declared.Port.{Port}
use Rattle.bus_session.specs.State.{is_counted, length_good, sound_session}
use Rattle.bus_session.specs.Step.{csb_of, takes_bit, frame_starts, frame_ends, step_of}
use Rattle.bus_session.proofs.Form.{Form, sound_form}
use Rattle.bus_session.proofs.Form as form
use Rattle.bus_session.proofs.Laws.{sound_step, port_sound}
use Rattle.reg_write.specs.Rise.{rise_banks}
use Rattle.read_run.specs.Reading.{ReaderState, reader_state_after, run_of}
use Rattle.send_order.specs.Order.{Order}
use Rattle.send_order.specs.Samples.{samples_of}
use Rattle.guarantees.specs.Book.{whole_run, write_all, armed_all, touched_all, book_of, touched_book}
use Rattle.guarantees.specs.Calls.{after_calls}
use Rattle.guarantees.specs.StoppedRun.{Run, stopped_samples, StoppedRun, BeforeRaise, Stops, rests, stalls, StoppedSession}
use Rattle.guarantees.proofs.Events.{Held}
use Rattle.guarantees.proofs.Calls.{run_append, calls_run}
use Rattle.guarantees.proofs.Orders.{unraised, raised_last}
use Rattle.guarantees.proofs.Counts.{run_written, whole_effect}
use Rattle.guarantees.proofs.Done.{sound_run}
use Rattle.guarantees.proofs.Raise.{rest_disarmed, raise_takes_nothing, raise_banks, raise_touches_none, raise_disarms, raise_twice}

-- what the raise leaves of a run stopped after any of its samples: sent whole, its own last sample is the rise, and the raise comes second
raised_run : (c : Chip) (m : List ℕ) (w : ReaderState) (o : Order) (s raise : ℕ) → sound_session c w.session ≡ true → csb_of raise ≡ true
    → (run_of c m w (stopped_samples c o s raise)).banks
    ≡ rise_banks c m (run_of c m w (take s (unraised c o))).session.armed (run_of c m w (take s (unraised c o))).banks
unfolding run_of bit_at
raised_run c m w o s raise h raised = by (dec_le s (length (unraised c o)))
  where
    then : ReaderState
    then = run_of c m w (take s (unraised c o))

    sound : sound_session c then.session ≡ true
    sound = sound_run c m w (take s (unraised c o)) h

    by : Dec (s ≤ length (unraised c o)) → (run_of c m w (stopped_samples c o s raise)).banks ≡ rise_banks c m then.session.armed then.banks
    by (yes few) =
        ap (λ (l : List ℕ). (run_of c m w (take s l ++ (raise ∷ []))).banks) (raised_last c o)
        ∙ ap (λ (l : List ℕ). (run_of c m w (l ++ (raise ∷ []))).banks) (take-append-le s (unraised c o) (0x01 ∷ []) few)
        ∙ ap (λ (v : ReaderState). v.banks) (run_append c m w (take s (unraised c o)) (raise ∷ []))
        ∙ raise_banks raise raised c m then sound
    by (no many) =
        ap (λ (l : List ℕ). (run_of c m w (take s l ++ (raise ∷ []))).banks) (raised_last c o)
        ∙ ap (λ (l : List ℕ). (run_of c m w (l ++ (raise ∷ []))).banks)
        (take_all s (unraised c o ++ (0x01 ∷ [])) (omega (arith, length-append (unraised c o) (0x01 ∷ []))))
        ∙ ap (λ (l : List ℕ). (run_of c m w l).banks) (append_assoc (unraised c o) (0x01 ∷ []) (raise ∷ []))
        ∙ ap (λ (l : List ℕ). (run_of c m w (l ++ (0x01 ∷ raise ∷ []))).banks) (sym (take_all s (unraised c o) (omega arith)))
        ∙ ap (λ (v : ReaderState). v.banks) (run_append c m w (take s (unraised c o)) (0x01 ∷ raise ∷ []))
        ∙ raise_twice c m then 0x01 raise sound refl raised

stopped_banks : (c : Chip) (m : List ℕ) (w : ReaderState) (o : Order) (room s raise : ℕ) → Run c m w o room raise
    → (run_of c m w (stopped_samples c o s raise)).banks ≡ book_of c m o s w.banks
unfolding book_of
stopped_banks c m w o room s raise run =
    raised_run c m w o s raise run.start.sound run.raised
    ∙ ap (λ (h : Held). rise_banks c m h.armed h.banks) (run_written c m w o room s run.start run.accepted run.write)
    ∙ ap (λ (k : Bool). rise_banks c m (armed_all c m (whole_run c o s) w.banks k) (write_all c m (whole_run c o s) w.banks))
    (rest_disarmed c w.session run.start.sound run.start.at_rest)

-- a raise touches no register, and neither does the run's own last sample
stopped_words : (c : Chip) (m : List ℕ) (w : ReaderState) (o : Order) (room s raise : ℕ) → Run c m w o room raise
    → (run_of c m w (stopped_samples c o s raise)).touched ≡ touched_book c m o s w.banks w.touched
unfolding run_of bit_at touched_book
stopped_words c m w o room s raise run = by (dec_le s (length (unraised c o)))
  where
    then : ReaderState
    then = run_of c m w (take s (unraised c o))

    book : then.touched ≡ touched_all c m (whole_run c o s) w.banks w.touched
    book = ap (λ (h : Held). h.touched) (run_written c m w o room s run.start run.accepted run.write)

    by : Dec (s ≤ length (unraised c o)) → (run_of c m w (stopped_samples c o s raise)).touched ≡ touched_all c m (whole_run c o s) w.banks w.touched
    by (yes few) =
        ap (λ (l : List ℕ). (run_of c m w (take s l ++ (raise ∷ []))).touched) (raised_last c o)
        ∙ ap (λ (l : List ℕ). (run_of c m w (l ++ (raise ∷ []))).touched) (take-append-le s (unraised c o) (0x01 ∷ []) few)
        ∙ ap (λ (v : ReaderState). v.touched) (run_append c m w (take s (unraised c o)) (raise ∷ []))
        ∙ raise_touches_none raise run.raised c m then
        ∙ book
    by (no many) =
        ap (λ (l : List ℕ). (run_of c m w (take s l ++ (raise ∷ []))).touched) (raised_last c o)
        ∙ ap (λ (l : List ℕ). (run_of c m w (l ++ (raise ∷ []))).touched)
        (take_all s (unraised c o ++ (0x01 ∷ [])) (omega (arith, length-append (unraised c o) (0x01 ∷ []))))
        ∙ ap (λ (l : List ℕ). (run_of c m w l).touched) (append_assoc (unraised c o) (0x01 ∷ []) (raise ∷ []))
        ∙ ap (λ (l : List ℕ). (run_of c m w (l ++ (0x01 ∷ raise ∷ []))).touched) (sym (take_all s (unraised c o) (omega arith)))
        ∙ ap (λ (v : ReaderState). v.touched) (run_append c m w (take s (unraised c o)) (0x01 ∷ raise ∷ []))
        ∙ raise_touches_none raise run.raised c m (reader_state_after c m then 0x01)
        ∙ raise_touches_none 0x01 refl c m then
        ∙ book

pub stopped_run : StoppedRun
stopped_run c m w o room s raise calls run read =
    let same = calls_run c m w calls ∙ ap (run_of c m w) read in (
      ap (λ (v : ReaderState). v.banks) same ∙ stopped_banks c m w o room s raise run,
      ap (λ (v : ReaderState). v.touched) same ∙ stopped_words c m w o room s raise run,
    )

pub before_raise : BeforeRaise
before_raise c m w o room s raise calls run early read =
    ap (λ (v : ReaderState). v.banks) (calls_run c m w calls ∙ ap (run_of c m w) read)
    ∙ whole_effect c m w o room s run.start run.accepted run.write early

-- ---- where a stop leaves the session

raise_high : (c : Chip) (s : Port) (raise : ℕ) → csb_of raise ≡ true → (step_of c s raise).csb ≡ true
unfolding step_of
raise_high c s raise h =
    each High (frame_starts s raise) (λ e. absurd (false≢true (sym starts_nothing ∙ e)))
    (λ _. each High (takes_bit s raise) (λ e. absurd (false≢true (sym (raise_takes_nothing raise h s) ∙ e)))
    (λ _. each High (frame_ends s raise) (λ e. refl) (λ e. h)))
  where
    High : Port → Type 0
    High next = next.csb ≡ true

    starts_nothing : frame_starts s raise ≡ false
    starts_nothing = rw (h, and-false)

stops : {c : Chip} {p : Port} → Form c p → p.csb ≡ true → Stops c (record { port = p; armed = false })
stops (form.rests k t) high = rests k t
stops (form.instructs k n v t u h g) high = absurd (false≢true high)
stops (form.has_data k n v a r l t u h g f d) high = absurd (false≢true high)
stops {c} (form.stalls k a r l t u f e d) high = stalls (form.stalled k a r l t u) (older c d) refl refl (rw e)
  where
    older : (c : Chip) → length_good c l a ≡ true → is_newer c ≡ false
    older Newer d = absurd (false≢true (sym (ap is_counted (eqb-true l 0 d)) ∙ e))
    older (Older part top) d = refl
stops (form.passes k t e) high = absurd (false≢true high)

pub stopped_session : StoppedSession
unfolding run_of
stopped_session c m w o room s raise calls run read =
    let before : ReaderState = run_of c m w (take s (samples_of c o)) in
    let same : after_calls c m w calls ≡ reader_state_after c m before raise =
    calls_run c m w calls ∙ ap (run_of c m w) read ∙ run_append c m w (take s (samples_of c o)) (raise ∷ []) in
    let sound = sound_run c m w (take s (samples_of c o)) run.start.sound in
    let port = step_of c before.session.port raise in
    rw (same, raise_disarms raise run.raised c m before sound)
    (stops (sound_form c port (sound_step c before.session.port raise (port_sound c before.session sound)))
    (raise_high c before.session.port raise run.raised))
