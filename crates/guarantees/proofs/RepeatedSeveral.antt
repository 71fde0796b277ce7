-- A sample that repeats all selects and SCLK changes no chip, gives no record, and is none of number 5.
use Prim.Native.Nat.{ℕ, ◌+◌, ◌*◌, ◌%◌, ◌^◌, ◌-◌, ◌≤◌}
use mathlib.Core.Path.{◌≡◌, refl, sym, ap, ap₂, ◌∙◌, subst}
use mathlib.Core.Bool.{Bool, true, false, not, ◌&&◌, ◌||◌, beq}
use mathlib.Core.List.{List, [], ◌∷◌, ◌++◌}
use native.Mathlib.Omega.{arith}
use borrow.Author.Tests.{le-leb, leb-true, eqb-true, eq-eqb, not-true}
use lib.Dec.{eqb, leb}
use lib.ListN.{length}
use Rattle.base_bits.specs.Bits.{bit_at, bit_of}
use Rattle.base_bits.proofs.Cases.{and_left, and_right}
use Rattle.base_bits.proofs.Tables.{all_below, below}
use Rattle.base_chip.specs.declared.Chip.TheVariants.{Newer}
use Rattle.bus_session.specs.declared.Port.{Port}
use Rattle.bus_session.specs.declared.Event.{Event}
use Rattle.bus_session.specs.declared.Event.TheVariants.{Nothing}
use Rattle.bus_session.specs.State.{sound_session}
use Rattle.bus_session.specs.Step.{csb_of, sclk_of, takes_bit, step_of}
use Rattle.bus_session.specs.Event.{event_of}
use Rattle.bus_session_bytes.specs.Layout.{are_session, session_of}
use Rattle.read_records.specs.Records.{record_of}
use Rattle.read_records.specs.BanksAfter.{banks_after, armed_after}
use Rattle.several_chips.specs.declared.Member.{Member}
use Rattle.several_chips.specs.Samples.{Sample, samples_in, seen_by, other_low, sample_good, all_good}
use Rattle.several_chips.specs.State.{State, mid_read, contended_now, port_after, state_after, given, is_read_byte, numbered, record_at, all_after, records_at, run_all, records_all, joined_records}
use Rattle.several_chips.specs.Members.{states_of, mark_good, sound_member}
use Rattle.several_chips.specs.Numbers.{all_sound, count_from, several_samples_good, several_number}
use Rattle.several_chips.specs.Calls.{done_of, several_of}
use Rattle.several_chips.proofs.Samples.{sample_count}
use Rattle.several_chips.proofs.Records.{records_length}
use Rattle.several_chips.proofs.SeveralTests.{several_tests}
use Rattle.guarantees.proofs.Alone.{several_of_done_lem}
use Rattle.guarantees.specs.RepeatedSeveral.{repeats, repeats_last, SlowerAll, end, kept, again, RepeatedSeveral}
use Rattle.guarantees.proofs.Repeated.{step_levels, port_again}

-- ---- what a chip sees of good lines

same_is : (a b : Bool) → beq a b ≡ true → a ≡ b
same_is true true e = refl
same_is true false e = sym e
same_is false true e = e
same_is false false e = refl

-- the select in bit 0 and the clock in bit 1, for each of the sixteen lines with bit 0 clear
seen_good : Bool → ℕ → Bool
seen_good b l = bit_at l 0 || (beq (csb_of (bit_of b + l)) b && beq (sclk_of (bit_of b + l)) (sclk_of l))

seen_table : (b : Bool) → all_below (seen_good b) 16 ≡ true
unfolding bit_at seen_good
seen_table true = refl
seen_table false = refl

record Sees (i : ℕ) (y : Sample) : Type 0 where
  select : csb_of (seen_by i y) ≡ bit_at y.selects i
  clock : sclk_of (seen_by i y) ≡ sclk_of y.lines

sees : (chips i : ℕ) (y : Sample) → sample_good chips y ≡ true → Sees i y
unfolding seen_good
sees chips i y good =
    let b = bit_at y.selects i in
    let lines = and_right (leb (2 ^ 8 - 2 ^ chips) y.selects) (leb y.lines 15 && not (bit_at y.lines 0)) good in
    let small = leb-true y.lines 15 (and_left (leb y.lines 15) (not (bit_at y.lines 0)) lines) in
    let clear = not-true (bit_at y.lines 0) (and_right (leb y.lines 15) (not (bit_at y.lines 0)) lines) in
    let row = below (seen_good b) 16 (seen_table b) y.lines (omega (arith, small)) in
    let both = subst (λ (t : Bool). (t || (beq (csb_of (seen_by i y)) b && beq (sclk_of (seen_by i y)) (sclk_of y.lines))) ≡ true) clear row in
    record {
      select = same_is _ _ (and_left (beq (csb_of (seen_by i y)) b) (beq (sclk_of (seen_by i y)) (sclk_of y.lines)) both);
      clock = same_is _ _ (and_right (beq (csb_of (seen_by i y)) b) (beq (sclk_of (seen_by i y)) (sclk_of y.lines)) both);
    }

-- ---- a sample with the last levels of all chips, from chip i on

abbrev Agree : ℕ → List Port → Sample → Type 0
Agree i [] y = Unit {0}
Agree i (p ∷ ps) y = ((csb_of (seen_by i y) ≡ p.csb) × (sclk_of (seen_by i y) ≡ p.sclk)) × Agree (i + 1) ps y

abbrev ports_of : List State → List Port
ports_of [] = []
ports_of (s ∷ ss) = s.session.port ∷ ports_of ss

abbrev SoundMarks : List State → Type 0
SoundMarks [] = Unit {0}
SoundMarks (s ∷ ss) = (s.contended ≡ true → mid_read s.session.port ≡ true) × SoundMarks ss

takes_none : (p : Port) (x : ℕ) → sclk_of x ≡ p.sclk → takes_bit p x ≡ false
takes_none p x e = by (not p.csb) (not (csb_of x)) p.sclk (sclk_of x) e
  where
    by : (a b c d : Bool) → d ≡ c → (a && b && not c && d) ≡ false
    by false b c d e = refl
    by true false c d e = refl
    by true true true d e = refl
    by true true false d e = e

mark_still : (mid c o : Bool) → (c ≡ true → mid ≡ true) → (mid && (c || (false && o))) ≡ c
mark_still true true o h = refl
mark_still true false o h = refl
mark_still false true o h = h refl
mark_still false false o h = refl

module _ (m : List ℕ) (i : ℕ) (s : State) (y : Sample) (e : csb_of (seen_by i y) ≡ s.session.port.csb) (f : sclk_of (seen_by i y) ≡ s.session.port.sclk) where
  abbrev p : Port
  p = s.session.port

  still : (step_of Newer p (seen_by i y) ≡ p) × (event_of Newer p (seen_by i y) ≡ Nothing)
  still = port_again Newer p (seen_by i y) e f

  armed_still : {v : Event} → v ≡ Nothing → armed_after Newer m s.session.armed s.banks v ≡ s.session.armed
  unfolding armed_after
  armed_still z = rw z refl

  banks_still : {v : Event} → v ≡ Nothing → banks_after Newer m s.session.armed s.banks v ≡ s.banks
  unfolding banks_after
  banks_still z = rw z refl

  mark_is : (s.contended ≡ true → mid_read p ≡ true) → (mid_read (port_after i s y) && contended_now i s y) ≡ s.contended
  mark_is h =
      ap₂ (λ (q : Port) (t : Bool). mid_read q && (s.contended || (t && other_low i y))) still.0 (takes_none p (seen_by i y) f)
      ∙ mark_still (mid_read p) s.contended (other_low i y) h

  state_still : (s.contended ≡ true → mid_read p ≡ true) → state_after m i s y ≡ s
  unfolding state_after
  state_still h = λ j. record {
    session = record { port = still.0 j; armed = armed_still still.1 j };
    contended = mark_is h j;
    banks = banks_still still.1 j;
  }

  record_still : record_at m i s y ≡ []
  unfolding record_at
  record_still = ap (λ (v : Event). given v (numbered_of v)) still.1
    where
      numbered_of : Event → List ℕ
      numbered_of v = numbered i (is_read_byte v && contended_now i s y) (record_of Newer m s.banks p.settings v)

all_still : (m : List ℕ) (i : ℕ) (ss : List State) (y : Sample) → Agree i (ports_of ss) y → SoundMarks ss → (all_after m i ss y ≡ ss) × (records_at m i ss y ≡ [])
unfolding all_after records_at
all_still m i [] y a marks = (refl, refl)
all_still m i (s ∷ ss) y a marks =
    let rest = all_still m (i + 1) ss y a.1 marks.1 in (
      ap₂ (λ (t : State) (ts : List State). t ∷ ts) (state_still m i s y a.0.0 a.0.1 marks.0) rest.0,
      ap₂ (λ (a b : List (List ℕ)). a ++ b) (record_still m i s y a.0.0 a.0.1) rest.1,
    )

-- ---- what is kept from sample to sample

agree_next : (m : List ℕ) (chips i : ℕ) (ss : List State) (x y : Sample) → sample_good chips x ≡ true → sample_good chips y ≡ true → repeats x y ≡ true
    → Agree i (ports_of (all_after m i ss x)) y
unfolding all_after state_after
agree_next m chips i [] x y gx gy r = tt
agree_next m chips i (s ∷ ss) x y gx gy r =
    let l = step_levels Newer s.session.port (seen_by i x) in
    let vx = sees chips i x gx in
    let vy = sees chips i y gy in
    let selects = eqb-true y.selects x.selects (and_left (eqb y.selects x.selects) (beq (sclk_of y.lines) (sclk_of x.lines)) r) in
    let clock =
    same_is (sclk_of y.lines) (sclk_of x.lines) (and_right (eqb y.selects x.selects) (beq (sclk_of y.lines) (sclk_of x.lines)) r) in (
      (vy.select ∙ ap (λ (n : ℕ). bit_at n i) selects ∙ sym vx.select ∙ sym l.low, vy.clock ∙ clock ∙ sym vx.clock ∙ sym l.clock),
      agree_next m chips (i + 1) ss x y gx gy r,
    )

marks_next : (m : List ℕ) (i : ℕ) (ss : List State) (x : Sample) → SoundMarks (all_after m i ss x)
unfolding all_after state_after
marks_next m i [] x = tt
marks_next m i (s ∷ ss) x = (λ e. and_left (mid_read (port_after i s x)) (contended_now i s x) e, marks_next m (i + 1) ss x)

abbrev Knows : ℕ → (Sample → Bool) → List State → Type 0
Knows chips before ss = (y : Sample) → sample_good chips y ≡ true → before y ≡ true → Agree 0 (ports_of ss) y

-- ---- two recordings

record AlikeAll (m : List ℕ) (ss : List State) (xs ys : List Sample) : Type 0 where
  run : run_all m ss xs ≡ run_all m ss ys
  records : records_all m ss xs ≡ records_all m ss ys

alike_all : {chips : ℕ} {before : Sample → Bool} {xs ys : List Sample} → SlowerAll chips before xs ys → (m : List ℕ) (ss : List State) → Knows chips before ss
    → SoundMarks ss
    → all_good chips xs ≡ true → AlikeAll m ss xs ys
unfolding run_all records_all all_good
alike_all end m ss knows marks good = record { run = refl; records = refl }
alike_all {chips} (kept {xs = xs} x s) m ss knows marks good =
    let gx = and_left (sample_good chips x) (all_good chips xs) good in
    let a =
    alike_all s m (all_after m 0 ss x) (λ y gy r. agree_next m chips 0 ss x y gx gy r) (marks_next m 0 ss x)
    (and_right (sample_good chips x) (all_good chips xs) good) in
    record { run = a.run; records = ap (λ (l : List (List ℕ)). records_at m 0 ss x ++ l) a.records }
alike_all {chips} (again {ys = ys} y gy r s) m ss knows marks good =
    let a = alike_all s m ss knows marks good in
    let q = all_still m 0 ss y (knows y gy r) marks in
    record {
      run = a.run ∙ sym (ap (λ (ts : List State). run_all m ts ys) q.0);
      records = a.records ∙ sym (ap₂ (λ (l : List (List ℕ)) (ts : List State). l ++ records_all m ts ys) q.1 q.0);
    }

good_alike : {chips : ℕ} {before : Sample → Bool} {xs ys : List Sample} → SlowerAll chips before xs ys → all_good chips xs ≡ all_good chips ys
unfolding all_good
good_alike end = refl
good_alike {chips} (kept x s) = ap (λ (t : Bool). sample_good chips x && t) (good_alike s)
good_alike {chips} (again {ys = ys} y gy r s) = good_alike s ∙ sym (ap (λ (t : Bool). t && all_good chips ys) gy)

shorter : {chips : ℕ} {before : Sample → Bool} {xs ys : List Sample} → SlowerAll chips before xs ys → length xs ≤ length ys
shorter end = omega arith
shorter (kept x s) = let h = shorter s in omega (arith, h)
shorter (again y gy r s) = let h = shorter s in omega (arith, h)

-- ---- the call

knows_last : (chips i : ℕ) (mem : List ℕ) (ws : List Member) (y : Sample) → sample_good chips y ≡ true → repeats_last i ws y ≡ true
    → Agree i (ports_of (states_of mem ws)) y
unfolding repeats_last
knows_last chips i mem [] y gy r = tt
knows_last chips i mem (w ∷ ws) y gy r =
    let v = sees chips i y gy in
    let p = (session_of w.session).port in
    let one = beq (bit_at y.selects i) p.csb in
    let two = beq (sclk_of y.lines) p.sclk in
    let rest = and_right one (two && repeats_last (i + 1) ws y) r in (
      (v.select ∙ same_is _ _ (and_left one (two && repeats_last (i + 1) ws y) r), v.clock ∙ same_is _ _ (and_left two (repeats_last (i + 1) ws y) rest)),
      knows_last chips (i + 1) mem ws y gy (and_right two (repeats_last (i + 1) ws y) rest),
    )

mark_sound : (w : Member) → sound_member w ≡ true → eqb w.contended 1 ≡ true → mid_read (session_of w.session).port ≡ true
unfolding sound_member
mark_sound w sound e =
    let one = eqb-true w.contended 1 e in
    let marked =
    and_right (sound_session Newer (session_of w.session)) (mark_good w)
    (and_right (are_session w.session) (sound_session Newer (session_of w.session) && mark_good w) sound) in
    let mid = mid_read (session_of w.session).port in
    let last = and_right (leb w.contended 1) (eqb w.contended 0 || mid) marked in
    subst (λ (n : ℕ). (eqb n 0 || mid) ≡ true) one last

marks_begin : (mem : List ℕ) (ws : List Member) → all_sound ws ≡ true → SoundMarks (states_of mem ws)
unfolding all_sound
marks_begin mem [] sound = tt
marks_begin mem (w ∷ ws) sound =
    (mark_sound w (and_left (sound_member w) (all_sound ws) sound), marks_begin mem ws (and_right (sound_member w) (all_sound ws) sound))

module _ (m : List ℕ) (ws : List Member) (mem bytes slow old : List ℕ) (even-bytes : length bytes % 2 ≡ 0) (even-slow : length slow % 2 ≡ 0)
    (few : length slow ≤ 2 * 65536)
    (s : SlowerAll (length ws) (repeats_last 0 ws) (samples_in bytes) (samples_in slow)) where
  abbrev n : ℕ
  n = length ws

  fewer : length bytes ≤ 2 * 65536
  fewer = omega (arith, even-bytes, even-slow, few, shorter s, sample_count bytes, sample_count slow)

  -- number 5 looks alike at both
  five : several_samples_good n bytes ≡ several_samples_good n slow
  five = rw (eq-eqb _ _ even-bytes, eq-eqb _ _ even-slow, le-leb (length bytes) (2 * 65536) fewer, le-leb (length slow) (2 * 65536) few) (good_alike s)

  both_good : several_samples_good n bytes ≡ true → all_good n (samples_in bytes) ≡ true
  both_good e =
      and_right (leb (length bytes) (2 * 65536)) (all_good n (samples_in bytes))
      (and_right (eqb (length bytes % 2) 0) (leb (length bytes) (2 * 65536) && all_good n (samples_in bytes)) e)

  read_alike : all_sound ws ≡ true → several_samples_good n bytes ≡ true → AlikeAll m (states_of mem ws) (samples_in bytes) (samples_in slow)
  read_alike sound good = alike_all s m (states_of mem ws) (knows_last n 0 mem ws) (marks_begin mem ws sound) (both_good good)

  counted : all_sound ws ≡ true → several_samples_good n bytes ≡ true → count_from 0 ws (samples_in bytes) ≡ count_from 0 ws (samples_in slow)
  counted sound good =
      let e = ap (λ (l : List (List ℕ)). length (joined_records l)) (read_alike sound good).records in
      omega (arith, e, records_length m mem ws (samples_in bytes), records_length m mem ws (samples_in slow))

  abbrev number : List ℕ → ℕ
  number l = several_number m ws (length mem) l (length old)

  number_alike : number bytes ≡ number slow
  unfolding several_number
  number_alike = by (all_sound ws) (several_samples_good n bytes) refl refl
    where
      by : (t u : Bool) → all_sound ws ≡ t → several_samples_good n bytes ≡ u → number bytes ≡ number slow
      by false u e f = rw e refl
      by true false e f = rw (f, sym five ∙ f) refl
      by true true e f = rw (five, counted e f) refl

  done_alike : number bytes ≡ 0 → done_of m ws mem bytes old ≡ done_of m ws mem slow old
  unfolding done_of
  done_alike z =
      let ok = several_tests m ws (length mem) bytes (length old) z in
      let a = read_alike ok.sound ok.samples in
      rw (a.run, a.records, counted ok.sound ok.samples) refl

  call_alike : several_of m ws mem bytes old ≡ several_of m ws mem slow old
  unfolding several_of
  call_alike = by (eqb (number bytes) 0) refl
    where
      by : (t : Bool) → eqb (number bytes) 0 ≡ t → several_of m ws mem bytes old ≡ several_of m ws mem slow old
      by true e =
          let z = eqb-true (number bytes) 0 e in
          several_of_done_lem m ws mem bytes old z ∙ done_alike z ∙ sym (several_of_done_lem m ws mem slow old (sym number_alike ∙ z))
      by false e = rw (e, sym (ap (λ (k : ℕ). eqb k 0) number_alike) ∙ e, number_alike) refl

pub repeated_several : RepeatedSeveral
repeated_several m ws mem bytes slow old even-bytes even-slow few s = call_alike m ws mem bytes slow old even-bytes even-slow few s
