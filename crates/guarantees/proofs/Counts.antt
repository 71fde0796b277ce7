-- The sample counts and the whole bytes are those of the formulas, and a byte takes effect when the formula says that it is whole.
use Prim.Native.Nat.{ℕ, ◌≤◌}
use mathlib.Core.Path.{◌≡◌, refl, ap, ◌∙◌}
use mathlib.Core.Bool.{Bool, true, false}
use mathlib.Core.List.{List, [], ◌∷◌, map, foldl}
use native.Mathlib.Omega.{arith}
use lib.Dec.{leb}
use lib.ListN.{length, take}
use borrow.Author.Tests.{leb-true, leb-false}
use Rattle.base_chip.specs.declared.Chip.{Chip}
use Rattle.read_records.specs.BanksAfter.{banks_after, armed_after, touched_after}
use Rattle.read_run.specs.Reading.{ReaderState, run_of}
use Rattle.send_order.specs.Order.{Order, RunByte, is_read, goes_up, is_single, sent_bytes, run_bytes}
use Rattle.send_order.proofs.Laws.{length_run_from, length_sent, length_counted, admitted}
use Rattle.guarantees.specs.AtRest.{AtRest, Accepted}
use Rattle.guarantees.specs.Book.{whole_after, whole_bytes, whole_run, write_all, armed_all, touched_all}
use Rattle.guarantees.specs.Counts.{SampleCount, WholeByte, WholeEffect}
use Rattle.guarantees.proofs.Events.{Held, held_in, held_on, run_held}
use Rattle.guarantees.proofs.Runs.{whole_of}
use Rattle.guarantees.proofs.Orders.{unraised, take_unraised, order_events}

-- an accepted order has as many bytes as it counts
pub run_length : (c : Chip) (o : Order) (room : ℕ) → Accepted c o room → length (run_bytes c o) ≡ o.count
run_length c o room accepted =
    length_run_from (goes_up c o) o.start (sent_bytes o)
    ∙ length_sent (is_read o) o.count o.bytes (admitted c o room accepted.number).count.data_length

pub sample_count : SampleCount
sample_count c o room accepted = length_counted c o (admitted c o room accepted.number).count

-- two tests that hold together
same_test : (a b c d : ℕ) → (a ≤ b → c ≤ d) → (c ≤ d → a ≤ b) → leb a b ≡ leb c d
same_test a b c d there back = by_tests (leb a b) (leb c d) refl refl
  where
    by_tests : (s t : Bool) → leb a b ≡ s → leb c d ≡ t → s ≡ t
    by_tests true true e f = refl
    by_tests true false e f = absurd (omega (arith, leb-false c d f, there (leb-true a b e)))
    by_tests false true e f = absurd (omega (arith, leb-false a b e, back (leb-true c d f)))
    by_tests false false e f = refl

pub whole_byte : WholeByte
unfolding whole_bytes
whole_byte c o s i first last =
    let both = by_mode (is_single c o) refl in
    same_test i (whole_bytes c o s) (whole_after c o i) s both.0 both.1
  where
    by_mode : (single : Bool) → is_single c o ≡ single → (i ≤ whole_bytes c o s → whole_after c o i ≤ s) × (whole_after c o i ≤ s → i ≤ whole_bytes c o s)
    by_mode true e = rw e (omega arith)
    by_mode false e = rw e (omega arith)

-- whole bytes of a write, one after the other
held_written : (c : Chip) (m : List ℕ) (h : Held) (ps : List RunByte)
    → foldl (held_on c m) h (map (whole_of false) ps)
    ≡ record { armed = armed_all c m ps h.banks h.armed; banks = write_all c m ps h.banks; touched = touched_all c m ps h.banks h.touched }
unfolding banks_after armed_after touched_after write_all armed_all touched_all
held_written c m h [] = refl
held_written c m h (p ∷ ps) = held_written c m (held_on c m h (whole_of false p)) ps

-- what a write leaves before the raise
pub run_written : (c : Chip) (m : List ℕ) (w : ReaderState) (o : Order) (room s : ℕ) → AtRest c m w o → Accepted c o room → is_read o ≡ false
    → held_in (run_of c m w (take s (unraised c o)))
    ≡ record {
      armed = armed_all c m (whole_run c o s) w.banks w.session.armed;
      banks = write_all c m (whole_run c o s) w.banks;
      touched = touched_all c m (whole_run c o s) w.banks w.touched;
    }
run_written c m w o room s rest accepted write =
    run_held c m w (take s (unraised c o))
    ∙ ap (foldl (held_on c m) (held_in w)) (order_events c m w o room rest accepted s)
    ∙ ap (λ (read : Bool). foldl (held_on c m) (held_in w) (map (whole_of read) (whole_run c o s))) write
    ∙ held_written c m (held_in w) (whole_run c o s)

pub whole_effect : WholeEffect
whole_effect c m w o room s rest accepted write early =
    ap (λ (xs : List ℕ). (run_of c m w xs).banks) (take_unraised c o s early)
    ∙ ap (λ (h : Held). h.banks) (run_written c m w o room s rest accepted write)
