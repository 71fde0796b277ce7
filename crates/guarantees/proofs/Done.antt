-- When a call is done: what a run leaves is sound and fits the map, and the samples of an order are good and few.
use Prim.Native.Nat.{ℕ, ◌*◌, ◌≤◌}
use mathlib.Core.Path.{◌≡◌, refl, sym, ap, ◌∙◌}
use mathlib.Core.Bool.{Bool, true, false, ◌&&◌, and_assoc}
use mathlib.Core.List.{List, [], ◌∷◌, ◌++◌}
use lib.Dec.{leb}
use lib.ListN.{length}
use borrow.Author.Tests.{le-leb, eq-eqb}
use Rattle.base_sizes.specs.Sizes.{record_size}
use Rattle.base_bits.proofs.Cases.{and_left, and_right}
use Rattle.map_format.specs.Format.{count_of}
use Rattle.base_chip.specs.declared.Chip.{Chip}
use Rattle.map_test.specs.MapTest.{map_number, top_fits}
use Rattle.bus_session.specs.State.{sound_session}
use Rattle.bus_session.specs.Event.{event_of}
use Rattle.reg_banks.specs.Banks.{Banks, Mapped}
use Rattle.read_run.specs.Reading.{ReaderState, reader_state_after, run_of, record_count}
use Rattle.read_refusals.specs.Numbers.{samples_good, banks_fit, words_fit, read_number}
use Rattle.read_refusals.proofs.Laws.{fits_mapped}
use Rattle.read_records.proofs.Laws.{mapped_after, length_after}
use Rattle.read_records.proofs.Arming.{sound_kept}
use Rattle.send_order.specs.Order.{Order}
use Rattle.send_order.specs.Samples.{clocked, order_bits, samples_of}
use Rattle.send_order.proofs.Laws.{admitted, most_samples_lem}
use Rattle.guarantees.specs.AtRest.{AtRest, Accepted}

-- what a call asks of a map, a session and its banks
pub record Sound (c : Chip) (m : List ℕ) (w : ReaderState) : Type 0 where
  pub session_sound : sound_session c w.session ≡ true
  pub mapped : Mapped m w.banks
  pub words : words_fit m w.touched ≡ true

pub sound_run : (c : Chip) (m : List ℕ) (w : ReaderState) (xs : List ℕ) → sound_session c w.session ≡ true → sound_session c (run_of c m w xs).session ≡ true
unfolding run_of
sound_run c m w [] h = h
sound_run c m w (x ∷ xs) h = sound_run c m (reader_state_after c m w x) xs (sound_kept c m w.session w.banks x h)

pub run_sound : (c : Chip) (m : List ℕ) (w : ReaderState) (xs : List ℕ) → Sound c m w → Sound c m (run_of c m w xs)
unfolding run_of
run_sound c m w [] h = h
run_sound c m w (x ∷ xs) h =
    run_sound c m (reader_state_after c m w x) xs
    (record {
      session_sound = sound_kept c m w.session w.banks x h.session_sound;
      mapped = mapped_after c m w.session.armed w.banks (event_of c w.session.port x) h.mapped;
      words = rw (length_after c m w.touched w.banks (event_of c w.session.port x)) h.words;
    })

-- the bank sizes, as the reader tests them
pub mapped_fits : (m : List ℕ) (b : Banks) → Mapped m b → banks_fit m b ≡ true
mapped_fits m b h =
    simp (eq-eqb (length b.active) (count_of m) h.active_size, eq-eqb (length b.buffer) (count_of m) h.buffer_size)

-- the reader gives no number: a call is done on its conditions
pub no_refusal :
    (c : Chip) (m : List ℕ) (w : ReaderState) (xs : List ℕ) (room : ℕ) → map_number c m ≡ 0 → top_fits c m ≡ true → Sound c m w → samples_good xs ≡ true
    → length xs ≤ 65536 → record_size * record_count c w.session.port xs ≤ room → read_number c m w xs room ≡ 0
unfolding read_number
no_refusal c m w xs room good top h fine few enough =
    rw (
      h.session_sound,
      good,
      mapped_fits m w.banks h.mapped,
      top,
      h.words,
      fine,
      le-leb (length xs) 65536 few,
      le-leb (record_size * record_count c w.session.port xs) room enough,
    )

-- a session at rest, with its banks
pub rest_sound : (c : Chip) (m : List ℕ) (w : ReaderState) (o : Order) → AtRest c m w o → Sound c m w
rest_sound c m w o rest =
    record { session_sound = rest.sound; mapped = fits_mapped m w.banks rest.bank_sizes; words = rest.words }

-- ---- the samples are good, and few

pub good_append : (xs ys : List ℕ) → samples_good (xs ++ ys) ≡ (samples_good xs && samples_good ys)
unfolding samples_good
good_append [] ys = refl
good_append (x ∷ xs) ys =
    ap (λ (t : Bool). leb x 15 && t) (good_append xs ys) ∙ sym (and_assoc (leb x 15) (samples_good xs) (samples_good ys))

good_clocked : (bs : List Bool) (more : List ℕ) → samples_good more ≡ true → samples_good (clocked bs ++ more) ≡ true
unfolding clocked samples_good
good_clocked [] more h = h
good_clocked (true ∷ bs) more h = good_clocked bs more h
good_clocked (false ∷ bs) more h = good_clocked bs more h

pub good_samples : (c : Chip) (o : Order) → samples_good (samples_of c o) ≡ true
unfolding samples_of samples_good
good_samples c o = good_clocked (order_bits c o) (0x00 ∷ 0x01 ∷ []) refl

pub good_part : (xs ys zs : List ℕ) → xs ++ ys ≡ zs → samples_good zs ≡ true → (samples_good xs ≡ true) × (samples_good ys ≡ true)
good_part xs ys zs e h =
    let both : (samples_good xs && samples_good ys) ≡ true = sym (good_append xs ys) ∙ ap samples_good e ∙ h in
    (and_left (samples_good xs) (samples_good ys) both, and_right (samples_good xs) (samples_good ys) both)

pub few_samples : (c : Chip) (o : Order) (room : ℕ) → Accepted c o room → length (samples_of c o) ≤ 48003
few_samples c o room accepted = most_samples_lem c o (admitted c o room accepted.number).count
