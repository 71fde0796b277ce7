-- Each chip of a list is read as if alone: no chip's step looks at another, its records carry its number, and its ranges are its own.
use mathlib.Core.Path.{◌≡◌, refl, sym, ap, ap₂, ◌∙◌, subst}
use mathlib.Core.Bool.{Bool, true, false, cond, ◌&&◌}
use mathlib.Core.List.{List, [], ◌∷◌, ◌++◌, map, append-nil}
use mathlib.Core.Logic.{◌⊎◌}
use Prim.Native.Nat.{ℕ, zero, suc, ◌+◌, ◌<◌, ◌≤◌}
use native.Mathlib.Omega.{arith}
use native.Mathlib.Nat.{add-zero, zero-add}
use borrow.Author.Tests.{eq-eqb, ne_eqb, eqb-true}
use lib.Dec.{eqb}
use lib.ListN.{length, get_or, set}
use lib.Seq.{set-set}
use Rattle.base_bits.proofs.Cases.{yes, no}
use Rattle.base_chip.specs.declared.Chip.TheVariants.{Newer}
use Rattle.map_format.specs.Format.{count_of}
use Rattle.reg_ranges.proofs.Laws.{placed_outside}
use Rattle.bus_session.specs.declared.Event.{Event}
use Rattle.bus_session.specs.declared.Event.TheVariants.{Nothing, Whole, Aborted, Ended}
use Rattle.read_records.specs.Records.{record_of}
use Rattle.read_run.specs.Reading.{ReaderState, event_at, reader_state_after, run_of, records_of}
use Rattle.several_chips.specs.Samples.{Sample, samples_in, seen_by, all_seen_by}
use Rattle.several_chips.specs.State as several
use Rattle.several_chips.specs.State.{State, contended_now, state_after, given, is_read_byte, numbered, record_at, all_after, records_at, run_all, records_all, joined_records}
use Rattle.several_chips.specs.declared.Member.{Member}
use Rattle.several_chips.specs.Members.{state_of, states_of, placed_all}
use Rattle.several_chips.specs.Numbers.{ranges_of, several_number}
use Rattle.several_chips.specs.Calls.{SeveralOutcome, several_outcome, done_of, several_of}
use Rattle.several_chips.proofs.SeveralTests.{several_tests}
use Rattle.several_chips.proofs.Kept.{banks_sized}
use Rattle.several_chips.proofs.Listed.{with_at, state_back}
use Rattle.several_chips.proofs.Memory.{AllRanged, AllMapped, own_banks, all_mapped}
use Rattle.guarantees.specs.Alone.{alone, own, record_list, contended, with_number, Outside, AsIfAlone, blotted, NoOtherSelect}

-- ---- a chip's records are its own

pick_append : (t : Bool) (r : List ℕ) (a b c : List (List ℕ)) → a ≡ b ++ c → cond t (r ∷ a) a ≡ cond t (r ∷ b) b ++ c
pick_append true r a b c e = ap (λ (l : List (List ℕ)). r ∷ l) e
pick_append false r a b c e = e

own_append : (k : ℕ) (rs ss : List (List ℕ)) → own k (rs ++ ss) ≡ own k rs ++ own k ss
unfolding own
own_append k [] ss = refl
own_append k (r ∷ rs) ss = pick_append (eqb (get_or r 0 0) k) r _ _ _ (own_append k rs ss)

own_same : (k : ℕ) (e : Event) (c : Bool) (r : List ℕ) → own k (given e (numbered k c r)) ≡ given e (numbered k c r)
unfolding own
own_same k Nothing c r = refl
own_same k (Whole read a v) c r = sym (yes _ (eq-eqb k k refl) refl)
own_same k (Aborted a bits in_data) c r = sym (yes _ (eq-eqb k k refl) refl)
own_same k Ended c r = refl

own_other : (k i : ℕ) → (i ≡ k → ⊥) → (e : Event) (c : Bool) (r : List ℕ) → own k (given e (numbered i c r)) ≡ []
unfolding own
own_other k i n Nothing c r = refl
own_other k i n (Whole read a v) c r = sym (no _ (ne_eqb i k n) refl)
own_other k i n (Aborted a bits in_data) c r = sym (no _ (ne_eqb i k n) refl)
own_other k i n Ended c r = refl

-- what a chip's record is made of
abbrev marked : ℕ → State → Sample → Bool
marked i s x = is_read_byte (several.chip_event i s x) && contended_now i s x

abbrev own_record : List ℕ → State → Event → List ℕ
own_record m s e = record_of Newer m s.banks s.session.port.settings e

record_same : (m : List ℕ) (k : ℕ) (s : State) (x : Sample) → own k (record_at m k s x) ≡ record_at m k s x
unfolding record_at
record_same m k s x = own_same k (several.chip_event k s x) (marked k s x) (own_record m s (several.chip_event k s x))

record_other : (m : List ℕ) (k i : ℕ) → (i ≡ k → ⊥) → (s : State) (x : Sample) → own k (record_at m i s x) ≡ []
unfolding record_at
record_other m k i n s x = own_other k i n (several.chip_event i s x) (marked i s x) (own_record m s (several.chip_event i s x))

-- ---- one sample

none_of_lower : (m : List ℕ) (k i : ℕ) → k < i → (ss : List State) (x : Sample) → own k (records_at m i ss x) ≡ []
unfolding own records_at
none_of_lower m k i h [] x = refl
none_of_lower m k i h (s ∷ ss) x =
    own_append k (record_at m i s x) (records_at m (i + 1) ss x)
    ∙ ap₂ (λ (a b : List (List ℕ)). a ++ b) (record_other m k i (λ e. absurd (omega (arith, e))) s x) (none_of_lower m k (i + 1) (omega arith) ss x)

own_sample : (m : List ℕ) (i j : ℕ) (ss : List State) (d : State) (x : Sample) → j < length ss
    → own (i + j) (records_at m i ss x) ≡ record_at m (i + j) (get_or ss j d) x
unfolding own records_at
own_sample m i j [] d x h = absurd (omega arith)
own_sample m i zero (s ∷ ss) d x h =
    let e : i + 0 ≡ i = add-zero i in
    ap (λ (k : ℕ). own k (records_at m i (s ∷ ss) x)) e
    ∙ own_append i (record_at m i s x) (records_at m (i + 1) ss x)
    ∙ ap₂ (λ (a b : List (List ℕ)). a ++ b) (record_same m i s x) (none_of_lower m i (i + 1) (omega arith) ss x)
    ∙ append-nil (record_at m i s x) ∙ ap (λ (k : ℕ). record_at m k s x) (sym e)
own_sample m i (suc j) (s ∷ ss) d x h =
    let e : i + suc j ≡ i + 1 + j = omega arith in
    own_append (i + suc j) (record_at m i s x) (records_at m (i + 1) ss x)
    ∙ ap (λ (a : List (List ℕ)). a ++ own (i + suc j) (records_at m (i + 1) ss x)) (record_other m (i + suc j) i (λ q. absurd (omega (arith, q))) s x)
    ∙ ap (λ (k : ℕ). own k (records_at m (i + 1) ss x)) e ∙ own_sample m (i + 1) j ss d x (omega arith) ∙ ap (λ (k : ℕ). record_at m k (get_or ss j d) x) (sym e)

after_sample : (m : List ℕ) (i j : ℕ) (ss : List State) (d : State) (x : Sample) → j < length ss
    → get_or (all_after m i ss x) j d ≡ state_after m (i + j) (get_or ss j d) x
unfolding all_after
after_sample m i j [] d x h = absurd (omega arith)
after_sample m i zero (s ∷ ss) d x h = ap (λ (k : ℕ). state_after m k s x) (sym (add-zero i))
after_sample m i (suc j) (s ∷ ss) d x h =
    let e : i + 1 + j ≡ i + suc j = omega arith in
    after_sample m (i + 1) j ss d x (omega arith) ∙ ap (λ (k : ℕ). state_after m k (get_or ss j d) x) e

pub length_all_after : (m : List ℕ) (i : ℕ) (ss : List State) (x : Sample) → length (all_after m i ss x) ≡ length ss
unfolding all_after
length_all_after m i [] x = refl
length_all_after m i (s ∷ ss) x = ap suc (length_all_after m (i + 1) ss x)

pub length_run : (m : List ℕ) (ss : List State) (xs : List Sample) → length (run_all m ss xs) ≡ length ss
unfolding run_all
length_run m ss [] = refl
length_run m ss (x ∷ xs) = length_run m (all_after m 0 ss x) xs ∙ length_all_after m 0 ss x

-- ---- all samples

with_given : (k : ℕ) (e : Event) (c : Bool) (r : List ℕ) (cs : List Bool) (rs : List (List ℕ))
    → with_number k (given e c ++ cs) (given e r ++ rs) ≡ given e (numbered k c r) ++ with_number k cs rs
unfolding with_number
with_given k Nothing c r cs rs = refl
with_given k (Whole read a v) c r cs rs = refl
with_given k (Aborted a bits in_data) c r cs rs = refl
with_given k Ended c r cs rs = refl

-- chip k of a list of states, at the end and in its records
pub record Follows (m : List ℕ) (ss : List State) (xs : List Sample) (words : List ℕ) (k : ℕ) (s after : State) : Type 0 where
  pub session : after.session ≡ (run_of Newer m (alone s words) (all_seen_by k xs)).session
  pub banks : after.banks ≡ (run_of Newer m (alone s words) (all_seen_by k xs)).banks
  pub records : own k (records_all m ss xs) ≡ with_number k (contended m k s xs) (record_list m (alone s words) (all_seen_by k xs))

pub follows : (m : List ℕ) (ss : List State) (xs : List Sample) (words : List ℕ) (k : ℕ) (d : State) → k < length ss
    → Follows m ss xs words k (get_or ss k d) (get_or (run_all m ss xs) k d)
unfolding run_all records_all run_of record_list contended with_number state_after record_at own
follows m ss [] words k d h = record { session = refl; banks = refl; records = refl }
follows m ss (x ∷ xs) words k d h =
    let s = get_or ss k d in
    let z : 0 + k ≡ k = zero-add k in
    let next = after_sample m 0 k ss d x h ∙ ap (λ (j : ℕ). state_after m j s x) z in
    let later = (reader_state_after Newer m (alone s words) (seen_by k x)).touched in
    let rest =
    subst (λ (t : State). Follows m (all_after m 0 ss x) xs later k t (get_or (run_all m (all_after m 0 ss x) xs) k d)) next
    (follows m (all_after m 0 ss x) xs later k d (omega (arith, length_all_after m 0 ss x))) in
    record {
      session = rest.session;
      banks = rest.banks;
      records =
          own_append k (records_at m 0 ss x) (records_all m (all_after m 0 ss x) xs)
          ∙ ap₂ (λ (a b : List (List ℕ)). a ++ b)
          (sym (ap (λ (j : ℕ). own j (records_at m 0 ss x)) z) ∙ own_sample m 0 k ss d x h ∙ ap (λ (j : ℕ). record_at m j s x) z) rest.records
          ∙ sym
          (with_given k (several.chip_event k s x) (marked k s x) (own_record m s (several.chip_event k s x)) (contended m k (state_after m k s x) xs)
          (record_list m (alone (state_after m k s x) later) (all_seen_by k xs)));
    }

-- ---- the call

-- one by one, or one after the other
given_one : (m : List ℕ) (w : ReaderState) (e : Event) (rest : List (List ℕ))
    → joined_records (given e (record_of Newer m w.banks w.session.port.settings e) ++ rest)
    ≡ record_of Newer m w.banks w.session.port.settings e ++ joined_records rest
unfolding joined_records record_of
given_one m w Nothing rest = refl
given_one m w (Whole read a v) rest = refl
given_one m w (Aborted a bits in_data) rest = refl
given_one m w Ended rest = refl

pub one_by_one : (m : List ℕ) (w : ReaderState) (ys : List ℕ) → joined_records (record_list m w ys) ≡ records_of Newer m w ys
unfolding record_list records_of joined_records
one_by_one m w [] = refl
one_by_one m w (y ∷ ys) =
    given_one m w (event_at Newer w y) (record_list m (reader_state_after Newer m w y) ys)
    ∙ ap (λ (l : List ℕ). record_of Newer m w.banks w.session.port.settings (event_at Newer w y) ++ l) (one_by_one m (reader_state_after Newer m w y) ys)

-- a byte outside all ranges
pub placed_all_outside : (m mem : List ℕ) (ws : List Member) (ss : List State) (j : ℕ) → AllRanged m (length mem) ws → AllMapped m ss → Outside j (ranges_of ws)
    → get_or (placed_all mem ws ss) j 0 ≡ get_or mem j 0
unfolding placed_all ranges_of
placed_all_outside m mem [] ss j all mapped out = refl
placed_all_outside m mem (w ∷ ws) [] j all mapped out = refl
placed_all_outside m mem (w ∷ ws) (s ∷ ss) j all mapped out =
    placed_outside (placed_all mem ws ss) (count_of m) w.active_start w.buffer_start j s.banks mapped.0.active_size mapped.0.buffer_size
    (subst (λ (n : ℕ). (j < w.active_start) ⊎ (w.active_start + n ≤ j)) all.0.active_size_is out.0)
    (subst (λ (n : ℕ). (j < w.buffer_start) ⊎ (w.buffer_start + n ≤ j)) all.0.buffer_size_is out.1.0)
    ∙ placed_all_outside m mem ws ss j all.1.1 mapped.1 out.1.1

-- the banks of all chips keep their size
mapped_all_after : (m : List ℕ) (i : ℕ) (ss : List State) (x : Sample) → AllMapped m ss → AllMapped m (all_after m i ss x)
unfolding all_after
mapped_all_after m i [] x all = tt
mapped_all_after m i (s ∷ ss) x all = (banks_sized m i s x all.0, mapped_all_after m (i + 1) ss x all.1)

mapped_run : (m : List ℕ) (ss : List State) (xs : List Sample) → AllMapped m ss → AllMapped m (run_all m ss xs)
unfolding run_all
mapped_run m ss [] all = all
mapped_run m ss (x ∷ xs) all = mapped_run m (all_after m 0 ss x) xs (mapped_all_after m 0 ss x all)

states_at : (mem : List ℕ) (ws : List Member) (k : ℕ) (d : Member) → k < length ws → get_or (states_of mem ws) k (state_of mem d) ≡ state_of mem (get_or ws k d)
states_at mem [] k d h = absurd (omega arith)
states_at mem (w ∷ ws) zero d h = refl
states_at mem (w ∷ ws) (suc k) d h = states_at mem ws k d (omega arith)

length_states : (mem : List ℕ) (ws : List Member) → length (states_of mem ws) ≡ length ws
length_states mem [] = refl
length_states mem (w ∷ ws) = ap suc (length_states mem ws)

-- a call whose number is 0 is not refused, and leaves what was done
number_zero : (m : List ℕ) (ws : List Member) (mem bytes old : List ℕ) → (several_of m ws mem bytes old).number ≡ 0
    → several_number m ws (length mem) bytes (length old) ≡ 0
unfolding several_of
number_zero m ws mem bytes old e = by (eqb (several_number m ws (length mem) bytes (length old)) 0) refl e
  where
    by : (t : Bool) → eqb (several_number m ws (length mem) bytes (length old)) 0 ≡ t
        → (cond t (done_of m ws mem bytes old) (several_outcome (several_number m ws (length mem) bytes (length old)) ws mem 0 old)).number ≡ 0
        → several_number m ws (length mem) bytes (length old) ≡ 0
    by true q z = eqb-true _ _ q
    by false q z = z

pub several_of_done_lem : (m : List ℕ) (ws : List Member) (mem bytes old : List ℕ) → several_number m ws (length mem) bytes (length old) ≡ 0
    → several_of m ws mem bytes old ≡ done_of m ws mem bytes old
unfolding several_of
several_of_done_lem m ws mem bytes old z = sym (yes _ (eq-eqb _ _ z) refl)

pub as_if_alone : AsIfAlone
unfolding done_of
as_if_alone m ws mem bytes old words k d zero_number h =
    let number = number_zero m ws mem bytes old zero_number in
    let ok = several_tests m ws (length mem) bytes (length old) number in
    let xs = samples_in bytes in
    let ss = states_of mem ws in
    let after = run_all m ss xs in
    let e = state_of mem d in
    let many = length_run m ss xs ∙ length_states mem ws in
    let mapped = mapped_run m ss xs (all_mapped m mem ws ok.ranged) in
    let done = several_of_done_lem m ws mem bytes old number in
    let member = ap (λ (o : SeveralOutcome). get_or o.members k d) done ∙ with_at ws after k d e many h in
    let memory = ap (λ (o : SeveralOutcome). o.memory) done in
    let held =
    ap₂ (λ (l : List ℕ) (v : Member). state_of l v) memory member
    ∙ state_back (placed_all mem ws after) (get_or ws k d) (get_or after k e) (own_banks m mem ws after k d e ok.ranged mapped many h) in
    let f =
    subst (λ (s : State). Follows m ss xs words k s (get_or after k e)) (states_at mem ws k d h)
    (follows m ss xs words k e (omega (arith, length_states mem ws, h))) in
    record {
      session = ap (λ (s : State). s.session) held ∙ f.session;
      banks = ap (λ (s : State). s.banks) held ∙ f.banks;
      records = f.records;
      one_by_one = one_by_one m (alone (state_of mem (get_or ws k d)) words) (all_seen_by k xs);
      outside = λ j out. ap (λ (l : List ℕ). get_or l j 0) memory ∙ placed_all_outside m mem ws after j ok.ranged mapped out;
    }

-- ---- other selects

-- a record without its sixth byte is that of the chip read alone
blot_numbered : (k : ℕ) (c : Bool) (r : List ℕ) → blotted (numbered k c r) ≡ k ∷ set r 5 0
blot_numbered k true r = ap (λ (l : List ℕ). k ∷ l) (set-set r 5 2 0)
blot_numbered k false r = refl

blot_given : (k : ℕ) (e : Event) (c : Bool) (r : List ℕ) (rs : List (List ℕ))
    → map blotted (given e (numbered k c r) ++ rs) ≡ given e (k ∷ set r 5 0) ++ map blotted rs
blot_given k Nothing c r rs = refl
blot_given k (Whole read a v) c r rs = ap (λ (l : List ℕ). l ∷ map blotted rs) (blot_numbered k c r)
blot_given k (Aborted a bits in_data) c r rs = ap (λ (l : List ℕ). l ∷ map blotted rs) (blot_numbered k c r)
blot_given k Ended c r rs = refl

-- so it goes by what the chip sees
plain_list : List ℕ → ℕ → ReaderState → List ℕ → List (List ℕ)
plain_list m k w [] = []
plain_list m k w (y ∷ ys) =
    given (event_at Newer w y) (k ∷ set (record_of Newer m w.banks w.session.port.settings (event_at Newer w y)) 5 0)
    ++ plain_list m k (reader_state_after Newer m w y) ys

blot_list : (m : List ℕ) (k : ℕ) (s : State) (words : List ℕ) (xs : List Sample)
    → map blotted (with_number k (contended m k s xs) (record_list m (alone s words) (all_seen_by k xs))) ≡ plain_list m k (alone s words) (all_seen_by k xs)
unfolding with_number contended record_list plain_list state_after
blot_list m k s words [] = refl
blot_list m k s words (x ∷ xs) =
    let e = several.chip_event k s x in
    let later = (reader_state_after Newer m (alone s words) (seen_by k x)).touched in
    ap (map blotted)
    (with_given k e (marked k s x) (own_record m s e) (contended m k (state_after m k s x) xs) (record_list m (alone (state_after m k s x) later) (all_seen_by k xs)))
    ∙ blot_given k e (marked k s x) (own_record m s e)
    (with_number k (contended m k (state_after m k s x) xs) (record_list m (alone (state_after m k s x) later) (all_seen_by k xs)))
    ∙ ap (λ (l : List (List ℕ)). given e (k ∷ set (own_record m s e) 5 0) ++ l) (blot_list m k (state_after m k s x) later xs)

pub no_other_select : NoOtherSelect
no_other_select m ss xs ys k d h e =
    let f = follows m ss xs [] k d h in
    let g = follows m ss ys [] k d h in
    let s = get_or ss k d in
    record {
      session = f.session ∙ ap (λ (l : List ℕ). (run_of Newer m (alone s []) l).session) e ∙ sym g.session;
      banks = f.banks ∙ ap (λ (l : List ℕ). (run_of Newer m (alone s []) l).banks) e ∙ sym g.banks;
      records =
          ap (map blotted) f.records ∙ blot_list m k s [] xs ∙ ap (plain_list m k (alone s [])) e
          ∙ sym (ap (map blotted) g.records ∙ blot_list m k s [] ys);
    }
