-- What a call leaves, by its number.
use mathlib.Core.Path.{◌≡◌, sym, ◌∙◌, ap}
use mathlib.Core.Bool.{Bool, true, false}
use mathlib.Core.Logic.{◌≢◌}
use mathlib.Core.List.{List}
use Prim.Native.Nat.{ℕ, ◌*◌, ◌/◌}
use native.Mathlib.Omega.{arith}
use lib.Dec.{eqb, leb}
use lib.ListN.{length}
use borrow.Author.Tests.{eq-eqb, ne_eqb, leb-true}
use Rattle.base_bits.proofs.Cases.{yes, no, and_left}
use Rattle.base_sizes.specs.Sizes.{record_size}
use Rattle.base_chip.specs.declared.Chip.{Chip}
use Rattle.map_test.specs.MapTest.{map_number}
use Rattle.bus_session.specs.declared.Session.{Session}
use Rattle.bus_soundness.specs.Opened.{opened_session}
use Rattle.reg_banks.specs.Banks.{Banks, default_banks}
use Rattle.read_run.specs.Reading.{ReaderState, record_count}
use Rattle.read_run.specs.Promises.{RunBefore, RunDone}
use Rattle.read_run.proofs.Laws.{records_size}
use Rattle.read_refusals.specs.Numbers.{open_number, samples_good, read_number}
use Rattle.read_refusals.proofs.Laws.{opens, fits_mapped, bits_enough, read_tests}
use Rattle.read_calls.specs.Calls.{Opening, opening, open_of, outcome, read_of}

-- a map that opening does not refuse is good
pub opened_good : (c : Chip) (m : List ℕ) (b : Banks) {number : ℕ} {s : Session} {after : Banks} → opening number s after ≡ open_of c m b → number ≡ 0
    → map_number c m ≡ 0
unfolding open_of
opened_good c m b e z = (opens c m b (sym (ap (λ (o : Opening). o.number) e) ∙ z)).good_map

module _ (c : Chip) (m : List ℕ) (b : Banks) (n : ℕ) (given : n ≡ open_number c m b) (s : Session) (fresh : s ≡ opened_session) where
  pub open_refused : n ≢ 0 → opening n s b ≡ open_of c m b
  unfolding open_of
  open_refused z =
      let t : eqb (open_number c m b) 0 ≡ false = ne_eqb (open_number c m b) 0 (λ q. z (given ∙ q)) in
      rw t (rw (given, fresh))

  pub open_done : n ≡ 0 → (after : Banks) → after ≡ default_banks m → opening n s after ≡ open_of c m b
  unfolding open_of
  open_done z after e =
      let t : eqb (open_number c m b) 0 ≡ true = eq-eqb (open_number c m b) 0 (sym given ∙ z) in
      rw t (rw (given, fresh, e))

-- where the number is 0, nothing can be refused any more
pub read_ready : {put : Bool} (c : Chip) (m : List ℕ) (w : ReaderState) (xs records : List ℕ) (n : ℕ) → n ≡ read_number c m w xs (length records) → n ≡ 0
    → RunBefore c put m w xs records
read_ready c m w xs records n e z =
    let t = read_tests c m w xs (length records) (sym e ∙ z) in
    record {
      sound = t.sound;
      few = leb-true (length xs) 65536 (and_left (leb (length xs) 65536) (samples_good xs) t.samples);
      mapped = λ p. fits_mapped m w.banks t.fits;
      bits = λ p. bits_enough m w.touched t.words;
      room = λ p. omega (arith, records_size c m xs w, leb-true (record_size * record_count c w.session.port xs) (length records) t.enough);
    }

-- a call that is refused leaves all as it was
pub read_refused : (c : Chip) (m : List ℕ) (w : ReaderState) (xs records : List ℕ) (n : ℕ) → n ≡ read_number c m w xs (length records) → n ≢ 0
    → outcome n w 0 records ≡ read_of c m w xs records
unfolding read_of
read_refused c m w xs records n e z =
    no _ (ne_eqb (read_number c m w xs (length records)) 0 (λ q. z (e ∙ q))) (ap (λ (k : ℕ). outcome k w 0 records) e)

-- a call that is done leaves what the pass over the samples gave
pub read_done : (c : Chip) (m : List ℕ) (w : ReaderState) (xs records : List ℕ) (n : ℕ) → n ≡ read_number c m w xs (length records) → n ≡ 0
    → (after : ReaderState) (size : ℕ) (new : List ℕ) → RunDone c m w xs records after size new
    → outcome 0 after (size / record_size) new ≡ read_of c m w xs records
unfolding read_of
read_done c m w xs records n e z after size new d =
    let count : size / record_size ≡ record_count c w.session.port xs = omega (arith, d.size_is, records_size c m xs w) in
    yes _ (eq-eqb (read_number c m w xs (length records)) 0 (sym e ∙ z)) (rw (d.next_state, d.records_after, count))
