-- How many bytes of records there are: eight for each record that a chip gives.
use mathlib.Core.Path.{◌≡◌, refl, sym, ap, ap₂, ◌∙◌}
use mathlib.Core.List.{List, [], ◌∷◌, ◌++◌, append_assoc}
use Prim.Native.Nat.{ℕ, ◌+◌, ◌*◌}
use native.Mathlib.Omega.{arith}
use native.Mathlib.Nat.{zero-add}
use lib.ListN.{length, length-append}
use Rattle.base_chip.specs.declared.Chip.TheVariants.{Newer}
use Rattle.read_records.specs.Records.{records_in}
use Rattle.bus_session_bytes.specs.Layout.{session_of}
use Rattle.read_run.specs.Reading.{record_count}
use Rattle.several_chips.specs.declared.Member.{Member}
use Rattle.several_chips.specs.Samples.{Sample, all_seen_by}
use Rattle.several_chips.specs.State.{State, chip_event, state_after, record_at, all_after, records_at, records_all, joined_records}
use Rattle.several_chips.specs.Members.{states_of}
use Rattle.several_chips.specs.Numbers.{count_from, several_record_size}
use Rattle.several_chips.proofs.Kept.{record_sized}

pub bytes_append : (a b : List (List ℕ)) → joined_records (a ++ b) ≡ joined_records a ++ joined_records b
unfolding joined_records
bytes_append [] b = refl
bytes_append (r ∷ a) b = ap (λ (l : List ℕ). r ++ l) (bytes_append a b) ∙ sym (append_assoc r (joined_records a) (joined_records b))

-- the records that one sample gives of the chips from number i on
number_at : ℕ → List State → Sample → ℕ
number_at i [] x = 0
number_at i (s ∷ ss) x = records_in (chip_event i s x) + number_at (i + 1) ss x

length_at : (m : List ℕ) (i : ℕ) (ss : List State) (x : Sample) → length (joined_records (records_at m i ss x)) ≡ several_record_size * number_at i ss x
unfolding records_at joined_records number_at
length_at m i [] x = refl
length_at m i (s ∷ ss) x =
    ap length (bytes_append (record_at m i s x) (records_at m (i + 1) ss x))
    ∙ length-append (joined_records (record_at m i s x)) (joined_records (records_at m (i + 1) ss x))
    ∙ ap₂ (λ (j k : ℕ). j + k) (record_sized m i s x) (length_at m (i + 1) ss x)
    ∙ (let h : 8 * records_in (chip_event i s x) + 8 * number_at (i + 1) ss x ≡ 8 * (records_in (chip_event i s x) + number_at (i + 1) ss x) = omega arith in h)

-- the records of all samples, chip by chip
count_states : ℕ → List State → List Sample → ℕ
count_states i [] xs = 0
count_states i (s ∷ ss) xs = record_count Newer s.session.port (all_seen_by i xs) + count_states (i + 1) ss xs

count_none : (i : ℕ) (ss : List State) → count_states i ss [] ≡ 0
unfolding count_states record_count
count_none i [] = refl
count_none i (s ∷ ss) = zero-add (count_states (i + 1) ss []) ∙ count_none (i + 1) ss

count_sample : (m : List ℕ) (i : ℕ) (ss : List State) (x : Sample) (xs : List Sample)
    → count_states i ss (x ∷ xs) ≡ number_at i ss x + count_states i (all_after m i ss x) xs
unfolding count_states record_count number_at all_after state_after
count_sample m i [] x xs = refl
count_sample m i (s ∷ ss) x xs =
    let rest = count_sample m (i + 1) ss x xs in
    let here = records_in (chip_event i s x) in
    let later = record_count Newer (state_after m i s x).session.port (all_seen_by i xs) in
    let h : here + later + count_states (i + 1) ss (x ∷ xs) ≡ here + number_at (i + 1) ss x + (later + count_states (i + 1) (all_after m (i + 1) ss x) xs) =
    omega (arith, rest) in
    h

length_all : (m : List ℕ) (ss : List State) (xs : List Sample) → length (joined_records (records_all m ss xs)) ≡ several_record_size * count_states 0 ss xs
unfolding records_all joined_records
length_all m ss [] = ap (λ (k : ℕ). 8 * k) (sym (count_none 0 ss))
length_all m ss (x ∷ xs) =
    let a = joined_records (records_at m 0 ss x) in
    let b = joined_records (records_all m (all_after m 0 ss x) xs) in
    let h : 8 * number_at 0 ss x + 8 * count_states 0 (all_after m 0 ss x) xs ≡ 8 * (number_at 0 ss x + count_states 0 (all_after m 0 ss x) xs) = omega arith in
    ap length (bytes_append (records_at m 0 ss x) (records_all m (all_after m 0 ss x) xs)) ∙ length-append a b
    ∙ ap₂ (λ (j k : ℕ). j + k) (length_at m 0 ss x) (length_all m (all_after m 0 ss x) xs) ∙ h ∙ ap (λ (k : ℕ). 8 * k) (sym (count_sample m 0 ss x xs))

count_members : (mem : List ℕ) (i : ℕ) (ws : List Member) (xs : List Sample) → count_states i (states_of mem ws) xs ≡ count_from i ws xs
unfolding count_states count_from
count_members mem i [] xs = refl
count_members mem i (w ∷ ws) xs = ap (λ (k : ℕ). record_count Newer (session_of w.session).port (all_seen_by i xs) + k) (count_members mem (i + 1) ws xs)

pub records_length : (m mem : List ℕ) (ws : List Member) (xs : List Sample)
    → length (joined_records (records_all m (states_of mem ws) xs)) ≡ several_record_size * count_from 0 ws xs
records_length m mem ws xs = length_all m (states_of mem ws) xs ∙ ap (λ (k : ℕ). 8 * k) (count_members mem 0 ws xs)
