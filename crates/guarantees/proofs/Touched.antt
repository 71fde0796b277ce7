-- Which registers have their bit: each event sets the bit of the register that its record names with effect 1 or 2, and no other.
use Prim.Native.Nat.{ℕ, zero, suc, ◌+◌, ◌*◌, ◌/◌, ◌%◌, ◌<◌, ◌≤◌}
use mathlib.Core.Path.{◌≡◌, refl, sym, ap, ◌∙◌}
use mathlib.Core.Bool.{Bool, true, false, cond, ◌&&◌, ◌||◌, or-false, or-true}
use mathlib.Core.List.{List, [], ◌∷◌, ◌++◌, append_assoc}
use native.Mathlib.Omega.{arith}
use lib.Dec.{eqb}
use lib.ListN.{length, get_or, set, replicate}
use lib.Seq.{get_or-set_same, get_or-set_other}
use borrow.Author.Tests.{eqb-true, eqb-false}
use Rattle.reg_touched.specs.Touched.{touched_bits, touched_words}
use Rattle.reg_touched.proofs.Meaning.{touch_sets_one, mark_clears_all, search_finds_next}
use Rattle.base_chip.specs.declared.Chip.{Chip}
use Rattle.map_format.specs.Format.{count_of}
use Rattle.bus_settings.specs.declared.Settings.{Settings}
use Rattle.bus_session.specs.declared.Event.{Event}
use Rattle.bus_session.specs.declared.Event.TheVariants.{Nothing, Whole, Aborted, Ended}
use Rattle.reg_banks.specs.Banks.{Banks, Mapped}
use Rattle.reg_write.specs.Write.{stages_at, effect_at, on_byte, touches_on, written_of}
use Rattle.reg_write.proofs.Laws.{effect_within, touches_number}
use Rattle.read_records.specs.Records.{record_of}
use Rattle.read_records.specs.BanksAfter.{touched_after}
use Rattle.read_records.proofs.Laws.{mapped_after, length_after}
use Rattle.read_run.specs.Reading.{ReaderState, event_at, reader_state_after, run_of, records_of}
use Rattle.read_refusals.specs.Numbers.{read_number}
use Rattle.read_refusals.proofs.Laws.{read_tests, fits_mapped, bits_enough}
use Rattle.read_calls.specs.Calls.{read_of}
use Rattle.guarantees.specs.Calls.{outcome_of, after_calls}
use Rattle.guarantees.specs.Touched.{named, recorded_by, is_touched, TouchedBy, TouchedSinceMark}

or_join : (x y z : Bool) → ((x || y) || z) ≡ (x || (y || z))
or_join true y z = refl
or_join false y z = refl

-- ---- one touch

-- the bit of an address after a touch of another, or of itself
touched_bit : (ws : List ℕ) (b a : ℕ) → b < 64 * length ws → get_or (touched_bits (touched_words ws b)) a false ≡ (get_or (touched_bits ws) a false || eqb b a)
touched_bit ws b a h = ap (λ (l : List Bool). get_or l a false) (touch_sets_one ws b) ∙ by (eqb b a) refl
  where
    inside : b < length (touched_bits ws)
    inside = omega (arith, (search_finds_next ws 0).1)

    by : (t : Bool) → eqb b a ≡ t → get_or (set (touched_bits ws) b true) a false ≡ (get_or (touched_bits ws) a false || eqb b a)
    by true t =
        rw t
        (ap (λ (i : ℕ). get_or (set (touched_bits ws) b true) i false) (sym (eqb-true b a t)) ∙ get_or-set_same (touched_bits ws) b true false inside
        ∙ sym (or-true (get_or (touched_bits ws) a false)))
    by false t = rw t (get_or-set_other (touched_bits ws) b a true false (λ q. eqb-false b a t (sym q)) ∙ sym (or-false (get_or (touched_bits ws) a false)))

-- ---- one event

module _ (c : Chip) (m ws : List ℕ) (b : Banks) (t : Settings) (h : Mapped m b) (bits : count_of m ≤ 64 * length ws) where
  -- a write, by whether its effect is on the byte of its register
  written_bit : (r v a : ℕ)
      → get_or (touched_bits (cond (on_byte (effect_at c m b r v)) (touched_words ws r) ws)) a false
      ≡ (get_or (touched_bits ws) a false || (eqb r a && touches_on (written_of c m b t r v).effect))
  written_bit r v a = rw (touches_number c t r v (effect_at c m b r v)) (by (on_byte (effect_at c m b r v)) refl)
    where
      by : (on : Bool) → on_byte (effect_at c m b r v) ≡ on
          → get_or (touched_bits (cond on (touched_words ws r) ws)) a false ≡ (get_or (touched_bits ws) a false || (eqb r a && on))
      by true e =
          touched_bit ws r a (omega (arith, effect_within c h (stages_at b r) r v e, h.active_size, bits))
          ∙ ap (λ (x : Bool). get_or (touched_bits ws) a false || x) (both (eqb r a))
        where
          both : (x : Bool) → x ≡ (x && true)
          both true = refl
          both false = refl
      by false e = sym (or-false (get_or (touched_bits ws) a false)) ∙ ap (λ (x : Bool). get_or (touched_bits ws) a false || x) (none (eqb r a))
        where
          none : (x : Bool) → false ≡ (x && false)
          none true = refl
          none false = refl

  event_bit : (e : Event) (a : ℕ) → get_or (touched_bits (touched_after c m ws b e)) a false ≡ (get_or (touched_bits ws) a false || named a (record_of c m b t e))
  unfolding touched_after record_of named
  event_bit Nothing a = sym (or-false (get_or (touched_bits ws) a false))
  event_bit (Whole true r v) a = sym (or-false (get_or (touched_bits ws) a false))
  event_bit (Whole false r v) a =
      let back : r / 256 * 256 + r % 256 ≡ r = omega arith in
      written_bit r v a
      ∙ ap (λ (x : Bool). get_or (touched_bits ws) a false || x) (rw back (sym (or-false (eqb r a && touches_on (written_of c m b t r v).effect))))
  event_bit (Aborted r n d) a = sym (or-false (get_or (touched_bits ws) a false))
  event_bit Ended a = sym (or-false (get_or (touched_bits ws) a false))

-- the records behind that of an event
named_then : (c : Chip) (m : List ℕ) (b : Banks) (t : Settings) (e : Event) (a : ℕ) (more : List ℕ)
    → named a (record_of c m b t e ++ more) ≡ (named a (record_of c m b t e) || named a more)
unfolding record_of named
named_then c m b t Nothing a more = refl
named_then c m b t (Whole true r v) a more = refl
named_then c m b t (Whole false r v) a more =
    let one = eqb (r / 256 * 256 + r % 256) a && touches_on (written_of c m b t r v).effect in
    ap (λ (x : Bool). x || named a more) (sym (or-false one))
named_then c m b t (Aborted r n d) a more = refl
named_then c m b t Ended a more = refl

-- ---- a list of samples

named_append : (c : Chip) (m : List ℕ) (w : ReaderState) (xs : List ℕ) (a : ℕ) (more : List ℕ)
    → named a (records_of c m w xs ++ more) ≡ (named a (records_of c m w xs) || named a more)
unfolding records_of named
named_append c m w [] a more = refl
named_append c m w (x ∷ xs) a more =
    let first = record_of c m w.banks w.session.port.settings (event_at c w x) in
    let rest = records_of c m (reader_state_after c m w x) xs in
    ap (named a) (append_assoc first rest more)
    ∙ named_then c m w.banks w.session.port.settings (event_at c w x) a (rest ++ more)
    ∙ ap (λ (z : Bool). named a first || z) (named_append c m (reader_state_after c m w x) xs a more)
    ∙ sym (or_join (named a first) (named a rest) (named a more))
    ∙ ap (λ (z : Bool). z || named a more) (sym (named_then c m w.banks w.session.port.settings (event_at c w x) a rest))

run_bits_lem : (c : Chip) (m : List ℕ) (w : ReaderState) (xs : List ℕ) (a : ℕ) → Mapped m w.banks → count_of m ≤ 64 * length w.touched
    → is_touched (run_of c m w xs) a ≡ (is_touched w a || named a (records_of c m w xs))
unfolding run_of records_of named
run_bits_lem c m w [] a h bits = sym (or-false (is_touched w a))
run_bits_lem c m w (x ∷ xs) a h bits =
    let e = event_at c w x in
    let first = record_of c m w.banks w.session.port.settings e in
    let rest = records_of c m (reader_state_after c m w x) xs in
    run_bits_lem c m (reader_state_after c m w x) xs a (mapped_after c m w.session.armed w.banks e h) (rw (length_after c m w.touched w.banks e) bits)
    ∙ ap (λ (z : Bool). z || named a rest) (event_bit c m w.touched w.banks w.session.port.settings h bits e a)
    ∙ or_join (is_touched w a) (named a first) (named a rest)
    ∙ ap (λ (z : Bool). is_touched w a || z) (sym (named_then c m w.banks w.session.port.settings e a rest))

-- ---- a list of calls

pub touched_by : TouchedBy
unfolding after_calls recorded_by read_of named
touched_by c m w [] a = sym (or-false (is_touched w a))
touched_by c m w (call ∷ more) a = by (eqb number 0) refl (λ v. touched_by c m v more a)
  where
    number : ℕ
    number = read_number c m w call.samples (length call.records)

    by : (done : Bool) → eqb number 0 ≡ done → ((v : ReaderState) → is_touched (after_calls c m v more) a ≡ (is_touched v a || named a (recorded_by c m v more)))
        → is_touched (after_calls c m (outcome_of c m w call).state more) a ≡ (is_touched w a || named a (recorded_by c m w (call ∷ more)))
    by true z later =
        let t = read_tests c m w call.samples (length call.records) (eqb-true number 0 z) in
        let after = run_of c m w call.samples in
        let first = records_of c m w call.samples in
        let rest = recorded_by c m after more in
        rw z
        (later after
        ∙ ap (λ (x : Bool). x || named a rest) (run_bits_lem c m w call.samples a (fits_mapped m w.banks t.fits) (bits_enough m w.touched t.words))
        ∙ or_join (is_touched w a) (named a first) (named a rest)
        ∙ ap (λ (x : Bool). is_touched w a || x) (sym (named_append c m w call.samples a rest)))
    by false z later = rw (z, z) (later w)

none_set : (n a : ℕ) → get_or (replicate n false) a false ≡ false
none_set zero a = refl
none_set (suc n) zero = refl
none_set (suc n) (suc a) = none_set n a

pub touched_since_mark : TouchedSinceMark
touched_since_mark c m w words calls a e =
    let none : is_touched w a ≡ false =
    ap (λ (ws : List ℕ). get_or (touched_bits ws) a false) e ∙ ap (λ (l : List Bool). get_or l a false) (mark_clears_all words)
    ∙ none_set (64 * length words) a in
    touched_by c m w calls a ∙ ap (λ (x : Bool). x || named a (recorded_by c m w calls)) none
