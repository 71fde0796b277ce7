-- A whole setup read back: order after order, each finds the session at rest with the settings of the list.
use Prim.Native.Nat.{ℕ, zero, suc, ◌+◌, ◌-◌}
use mathlib.Core.Path.{◌≡◌, refl, sym, ap, ◌∙◌}
use mathlib.Core.Bool.{Bool, true, false, cond, not, ◌||◌}
use mathlib.Core.List.{List, [], ◌∷◌, map}
use native.Mathlib.Omega.{arith}
use lib.ListN.{length, take, drop}
use lib.Pow.{are_bytes}
use lib.Dec.{eqb, ltb}
use borrow.Author.Tests.{not-true}
use Rattle.base_bits.specs.Bits.{bit_at}
use Rattle.base_bits.specs.Buffer.{filled}
use Rattle.base_bits.specs.Bytes.{word_at}
use Rattle.base_bits.proofs.Cases.{and_left, and_right, or_left, or_right}
use Rattle.base_chip.specs.declared.Chip.TheVariants.{Newer}
use Rattle.base_chip.specs.Registers.{configuration_a, configuration_b}
use Rattle.bus_settings.specs.declared.Settings.{Settings}
use Rattle.bus_settings.specs.Settings.{newer_after}
use Rattle.read_run.specs.Reading.{ReaderState, run_of, records_of, record_count}
use Rattle.read_refusals.specs.Numbers.{samples_good, read_number}
use Rattle.read_calls.specs.Calls.{outcome, read_of}
use Rattle.send_order.specs.Order.{Order, RunByte, is_read, run_bytes}
use Rattle.send_order.specs.Samples.{samples_of, all_samples}
use Rattle.send_order.specs.Number.{is_configuration}
use Rattle.send_setup.specs.Form.{first_listed, after_first, order_with, listed_of}
use Rattle.send_setup.specs.Calls.{most_orders, orders_of, first_bad}
use Rattle.send_setup.proofs.Numbers.{none_bad, passed}
use Rattle.guarantees.specs.AtRest.{AtRest, Accepted}
use Rattle.guarantees.specs.Book.{clear_of_settings}
use Rattle.guarantees.specs.ReadBack.{settings_left}
use Rattle.guarantees.specs.SetupReadBack.{state_past, state_left, setup_records, setup_bytes, configures_last, any_order, SetupReadBack}
use Rattle.guarantees.proofs.Calls.{run_append, records_append, count_append}
use Rattle.guarantees.proofs.Done.{run_sound, rest_sound, mapped_fits, no_refusal, good_append, good_samples}
use Rattle.guarantees.proofs.ReadBack.{session_end, banks_end, touched_end, count_end, records_end}

-- ---- a read, or a write clear of 0x0000 and 0x0001, leaves the settings as they were

clear_settings : (t : Settings) (ps : List RunByte) → clear_of_settings Newer ps ≡ true → settings_left Newer false t ps ≡ t
unfolding settings_left clear_of_settings newer_after
clear_settings t [] h = refl
clear_settings t (p ∷ ps) h =
    let c = not-true (is_configuration p) (and_left (not (is_configuration p)) (clear_of_settings Newer ps) h) in
    let a : eqb p.address configuration_a ≡ false = or_left (eqb p.address configuration_a) (eqb p.address configuration_b) c in
    let b : eqb p.address configuration_b ≡ false = or_right (eqb p.address configuration_a) (eqb p.address configuration_b) c in
    rw (a, b) (clear_settings t ps (and_right (not (is_configuration p)) (clear_of_settings Newer ps) h))

read_settings : (t : Settings) (ps : List RunByte) → settings_left Newer true t ps ≡ t
unfolding settings_left
read_settings t [] = refl
read_settings t (p ∷ ps) = read_settings t ps

settings_kept_by_run : (read : Bool) (t : Settings) (ps : List RunByte) → (read || clear_of_settings Newer ps) ≡ true → settings_left Newer read t ps ≡ t
settings_kept_by_run true t ps h = read_settings t ps
settings_kept_by_run false t ps h = clear_settings t ps h

-- ---- the orders of a list to which the call gives 0 are accepted, each with the list's settings

bytes_drop : (n : ℕ) (xs : List ℕ) → are_bytes xs ≡ true → are_bytes (drop n xs) ≡ true
bytes_drop zero xs h = h
bytes_drop (suc n) [] h = h
bytes_drop (suc n) (x ∷ xs) h = bytes_drop n xs (and_right (ltb x 256) (are_bytes xs) h)

bytes_take : (n : ℕ) (xs : List ℕ) → are_bytes xs ≡ true → are_bytes (take n xs) ≡ true
bytes_take zero xs h = refl
bytes_take (suc n) [] h = refl
bytes_take (suc n) (x ∷ xs) h = rw (and_left (ltb x 256) (are_bytes xs) h) (bytes_take n xs (and_right (ltb x 256) (are_bytes xs) h))

AllAccepted : ℕ → List Order → Type 0
AllAccepted settings [] = Unit {0}
AllAccepted settings (o ∷ os) = (o.settings ≡ settings) × Accepted Newer o (length (samples_of Newer o)) × AllAccepted settings os

all_accepted : (settings k : ℕ) (l : List ℕ) → are_bytes l ≡ true → first_bad (map (order_with settings) (listed_of k l)) ≡ 0
    → AllAccepted settings (map (order_with settings) (listed_of k l))
unfolding listed_of AllAccepted
all_accepted settings zero l b z = tt
all_accepted settings (suc k) l b z = go (eqb (length l) 0) z (all_accepted settings k (after_first l) (bytes_drop (2 + word_at l 0) l b))
  where
    go : (t : Bool) → first_bad (map (order_with settings) (cond t [] (first_listed l ∷ listed_of k (after_first l)))) ≡ 0
        → (first_bad (map (order_with settings) (listed_of k (after_first l))) ≡ 0 → AllAccepted settings
        (map (order_with settings) (listed_of k (after_first l))))
        → AllAccepted settings (map (order_with settings) (cond t [] (first_listed l ∷ listed_of k (after_first l))))
    go true z more = tt
    go false z more =
        let f = none_bad (order_with settings (first_listed l)) (map (order_with settings) (listed_of k (after_first l))) z in
        (refl, record { number = f.0; data_bytes = bytes_take (word_at l 0 - 6) (drop 8 l) (bytes_drop 8 l b) }, more f.1)

-- ---- one order after the other

-- of an order, to be at rest looks at its settings alone
same_rest : (m : List ℕ) (w : ReaderState) (o p : Order) → p.settings ≡ o.settings → AtRest Newer m w o → AtRest Newer m w p
same_rest m w o p e r = record {
  good_map = r.good_map;
  top = r.top;
  sound = r.sound;
  at_rest = r.at_rest;
  deselected = r.deselected;
  bank_sizes = r.bank_sizes;
  words = r.words;
  same_lsb = ap (λ (t : ℕ). bit_at t 0) e ∙ r.same_lsb;
  same_direction = ap (λ (t : ℕ). bit_at t 1) e ∙ r.same_direction;
  same_single = ap (λ (t : ℕ). bit_at t 2) e ∙ r.same_single;
}

module _ (m : List ℕ) (w : ReaderState) (o : Order) (room : ℕ) (rest : AtRest Newer m w o) (accepted : Accepted Newer o room) where
  past : run_of Newer m w (samples_of Newer o) ≡ state_past m w o
  past = λ i. record {
    session = session_end Newer m w o room rest accepted i;
    banks = banks_end Newer m w o room rest accepted i;
    touched = touched_end Newer m w o room rest accepted i;
  }

  rests_again : settings_left Newer (is_read o) w.session.port.settings (run_bytes Newer o) ≡ w.session.port.settings → AtRest Newer m (state_past m w o) o
  rests_again e =
      let s = rw past at (run_sound Newer m w (samples_of Newer o) (rest_sound Newer m w o rest)) in
      record {
        good_map = rest.good_map;
        top = rest.top;
        sound = s.session_sound;
        at_rest = refl;
        deselected = refl;
        bank_sizes = mapped_fits m (state_past m w o).banks s.mapped;
        words = s.words;
        same_lsb = rest.same_lsb ∙ ap (λ (t : Settings). t.lsb_first) (sym e);
        same_direction = rest.same_direction ∙ ap (λ (t : Settings). t.ascending) (sym e);
        same_single = rest.same_single ∙ ap (λ (t : Settings). t.single_instruction) (sym e);
      }

-- what reading all the samples leaves
record Left (m : List ℕ) (w : ReaderState) (os : List Order) : Type 0 where
  state : run_of Newer m w (all_samples Newer os) ≡ state_left m w os
  records : records_of Newer m w (all_samples Newer os) ≡ setup_records m w os
  count : record_count Newer w.session.port (all_samples Newer os) ≡ setup_bytes os
  good : samples_good (all_samples Newer os) ≡ true

left_none : (m : List ℕ) (w : ReaderState) → Left m w []
unfolding all_samples state_left setup_records setup_bytes run_of records_of record_count samples_good
left_none m w = record { state = refl; records = refl; count = refl; good = refl }

left_more :
    (m : List ℕ) (w : ReaderState) (o : Order) (os : List Order) (room : ℕ) → AtRest Newer m w o → Accepted Newer o room
    → Left m (state_past m w o) os → Left m w (o ∷ os)
unfolding all_samples state_left setup_records setup_bytes
left_more m w o os room rest accepted l =
    let p = past m w o room rest accepted in
    record {
      state = run_append Newer m w (samples_of Newer o) (all_samples Newer os) ∙ rw p l.state;
      records = records_append Newer m w (samples_of Newer o) (all_samples Newer os) ∙ rw (p, records_end Newer m w o room rest accepted, l.records);
      count = count_append Newer m w (samples_of Newer o) (all_samples Newer os) ∙ rw (p, count_end Newer m w o room rest accepted, l.count);
      good = good_append (samples_of Newer o) (all_samples Newer os) ∙ rw (good_samples Newer o, l.good);
    }

left_all :
    (m : List ℕ) (w : ReaderState) (settings : ℕ) (os : List Order) → AtRest Newer m w (any_order settings) → AllAccepted settings os → configures_last os ≡ true
    → Left m w os
unfolding AllAccepted configures_last
left_all m w settings [] rest a h = left_none m w
left_all m w settings (o ∷ []) rest a h =
    left_more m w o [] _ (same_rest m w (any_order settings) o a.0 rest) a.1 (left_none m (state_past m w o))
left_all m w settings (o ∷ p ∷ os) rest a h =
    let r = same_rest m w (any_order settings) o a.0 rest in
    let kept =
    settings_kept_by_run (is_read o) w.session.port.settings (run_bytes Newer o)
    (and_left (is_read o || clear_of_settings Newer (run_bytes Newer o)) (configures_last (p ∷ os)) h) in
    let again = same_rest m (state_past m w o) o (any_order settings) (sym a.0) (rests_again m w o _ r a.1 kept) in
    left_more m w o (p ∷ os) _ r a.1
    (left_all m (state_past m w o) settings (p ∷ os) again a.2 (and_right (is_read o || clear_of_settings Newer (run_bytes Newer o)) (configures_last (p ∷ os)) h))

pub setup_read_back : SetupReadBack
unfolding read_of orders_of
setup_read_back m settings list room w records rest bytes z h enough =
    let p = passed settings list room z in
    let l = left_all m w settings (orders_of settings list) rest (all_accepted settings most_orders list bytes p.fine) h in
    let n : read_number Newer m w (all_samples Newer (orders_of settings list)) (length records) ≡ 0 =
    no_refusal Newer m w (all_samples Newer (orders_of settings list)) (length records) rest.good_map rest.top
    (rest_sound Newer m w (any_order settings) rest) l.good
    p.few (omega (arith, l.count)) in
    rw n (λ i. outcome 0 (l.state i) (l.count i) (filled (l.records i) records))
