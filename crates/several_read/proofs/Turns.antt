-- How far the turns of a call that is not refused have come: what each keeps, as facts about lists.
use mathlib.Core.Path.{◌≡◌, refl, sym, ap, ap₂, ◌∙◌, subst}
use mathlib.Core.Bool.{true, false, ◌&&◌}
use mathlib.Core.List.{List, [], ◌∷◌, ◌++◌, append_assoc, append-nil}
use Prim.Native.Nat.{ℕ, zero, suc, ◌+◌, ◌*◌, ◌/◌, ◌%◌, ◌<◌, ◌≤◌}
use native.Mathlib.Omega.{arith}
use native.Mathlib.Nat.{zero-add}
use native.Mathlib.Numerals.{add-one}
use borrow.Author.Tests.{ltb-true, ltb-false}
use lib.Dec.{eqb, ltb, leb}
use lib.ListN.{length, get_or, drop, set, length-set, length-append}
use lib.Seq.{sets, drop-cons, length-sets}
use Rattle.base_bits.proofs.Buffer.{sets_append, sets_filled}
use Rattle.base_bits.proofs.Cases.{each, and_right}
use Rattle.reg_banks.specs.Banks.{Mapped}
use Rattle.reg_ranges.specs.Ranges.{placed}
use Rattle.several_chips.specs.declared.Member.{Member}
use Rattle.several_chips.specs.declared.Turn.{Turn}
use Rattle.several_chips.specs.declared.Stepped.{Stepped}
use Rattle.several_chips.specs.Samples.{Sample, samples_in, all_good}
use Rattle.several_chips.specs.State.{State, state_after, record_at, run_all, records_all, joined_records}
use Rattle.several_chips.specs.Members.{state_of, member_with, states_of, members_with, placed_all, sound_member}
use Rattle.several_chips.specs.Promises.{sample_at, turn, turn_after, Stepping, HasStepped, AllBytes}
use Rattle.several_chips.specs.Numbers.{all_sound, count_from, several_record_size}
use Rattle.several_chips.specs.Calls.{several_outcome, done_of}
use Rattle.several_chips.proofs.Memory.{AllMapped, ranged_at, mapped_set, within, own_banks, placed_for, placed_all_same, all_mapped, mapped_held, length_placed_all}
use Rattle.several_chips.proofs.SeveralTests.{SeveralTests}
use Rattle.several_chips.proofs.Listed.{length_with, with_at, with_set, state_back, with_same, sound_at, sound_set}
use Rattle.several_chips.proofs.Samples.{sample_count, sample_here, good_at}
use Rattle.several_chips.proofs.Records.{bytes_append, records_length}
use Rattle.several_read.proofs.Resume.{resume, resumed, resume_first, resumed_first, resume_next, resumed_next, resume_last, resumed_last}

-- a call that is not refused: the chips and the memory hold these states, these records are put, and from here on comes what is left
pub record Going (m : List ℕ) (ws : List Member) (mem bytes old : List ℕ) (t : Turn) (cur : List Member) (memory new : List ℕ) : Type 0 where
  pub states : List State
  pub done : List (List ℕ)
  pub many : length states ≡ length ws
  pub chip_in : t.chip < length ws
  pub members_are : cur ≡ members_with ws states
  pub memory_is : memory ≡ placed_all mem ws states
  pub sound : all_sound cur ≡ true
  pub mapped : AllMapped m states
  pub records_are : new ≡ sets old 0 (joined_records done)
  pub at_is : t.at ≡ length (joined_records done)
  pub run_is : resume m t.chip states (drop t.sample (samples_in bytes)) ≡ run_all m (states_of mem ws) (samples_in bytes)
  pub records_resumed : done ++ resumed m t.chip states (drop t.sample (samples_in bytes)) ≡ records_all m (states_of mem ws) (samples_in bytes)

drop_over : (n : ℕ) (xs : List Sample) → length xs ≤ n → drop n xs ≡ []
drop_over zero [] h = refl
drop_over (suc n) [] h = refl
drop_over zero (x ∷ xs) h = absurd (omega arith)
drop_over (suc n) (x ∷ xs) h = drop_over n xs (omega arith)

length_states : (mem : List ℕ) (ws : List Member) → length (states_of mem ws) ≡ length ws
length_states mem [] = refl
length_states mem (w ∷ ws) = ap suc (length_states mem ws)

-- a state that stands where there is none
abbrev nobody : List ℕ → Member → State
nobody mem d = state_of mem d

module _ (m : List ℕ) (ws : List Member) (mem bytes old : List ℕ) (ok : SeveralTests m ws (length mem) bytes (length old)) where
  abbrev xs : List Sample
  xs = samples_in bytes

  abbrev At : Turn → List Member → List ℕ → List ℕ → Type 0
  At t cur memory new = Going m ws mem bytes old t cur memory new

  all_fit : length (joined_records (records_all m (states_of mem ws) xs)) ≤ length old
  all_fit = omega (arith, records_length m mem ws xs, ok.enough)

  pub going_begun : AllBytes ws → At (turn 0 0 0) ws mem old
  unfolding joined_records
  going_begun small = record {
    states = states_of mem ws;
    done = [];
    many = length_states mem ws;
    chip_in = ok.one;
    members_are = sym (with_same mem ws ok.sound small);
    memory_is = sym (placed_all_same m mem ws ok.ranged);
    sound = ok.sound;
    mapped = all_mapped m mem ws ok.ranged;
    records_are = refl;
    at_is = refl;
    run_is = resume_first m (states_of mem ws) xs;
    records_resumed = resumed_first m (states_of mem ws) xs;
  }

  pub going_ended : {t : Turn} {cur : List Member} {memory new : List ℕ} → At t cur memory new → length bytes / 2 ≤ t.sample
      → several_outcome 0 cur memory (t.at / several_record_size) new ≡ done_of m ws mem bytes old
  unfolding resume resumed done_of
  going_ended {t} {cur} {memory} {new} g over =
      let none = drop_over t.sample xs (omega (arith, sample_count bytes, over)) in
      let run = sym (ap (resume m t.chip g.states) none) ∙ g.run_is in
      let all = sym (append-nil g.done) ∙ sym (ap (λ (l : List Sample). g.done ++ resumed m t.chip g.states l) none) ∙ g.records_resumed in
      let size = g.at_is ∙ ap (λ (l : List (List ℕ)). length (joined_records l)) all ∙ records_length m mem ws xs in
      let count : t.at / 8 ≡ count_from 0 ws xs = omega (arith, size) in
      let put =
      g.records_are ∙ ap (λ (l : List (List ℕ)). sets old 0 (joined_records l)) all
      ∙ sets_filled (joined_records (records_all m (states_of mem ws) xs)) old all_fit in
      ap₂ (λ (vs : List Member) (l : List ℕ). several_outcome 0 vs l (t.at / several_record_size) new) (g.members_are ∙ ap (members_with ws) run)
      (g.memory_is ∙ ap (placed_all mem ws) run)
      ∙ ap₂
      (λ (k : ℕ) (l : List ℕ). several_outcome 0 (members_with ws (run_all m (states_of mem ws) xs))
      (placed_all mem ws (run_all m (states_of mem ws) xs)) k l) count put

  -- ---- a turn that is there
  module _ {t : Turn} {cur : List Member} {memory new : List ℕ} (g : At t cur memory new) (less : t.sample < length bytes / 2) (d : Member) where
    abbrev i : ℕ
    i = t.chip

    -- the chip whose turn it is, and what it holds
    abbrev w : Member
    w = get_or ws i d

    abbrev s : State
    s = get_or g.states i (nobody mem d)

    abbrev x : Sample
    x = sample_at bytes t.sample

    abbrev v : Member
    v = member_with w s

    many_in : i < length g.states
    many_in = omega (arith, g.many, g.chip_in)

    pub here : get_or cur i d ≡ v
    here = ap (λ (l : List Member). get_or l i d) g.members_are ∙ with_at ws g.states i d (nobody mem d) g.many g.chip_in

    pub holds : state_of memory v ≡ s
    holds =
        state_back memory w s
        (ap (λ (l : List ℕ). (state_of l w).banks) g.memory_is
        ∙ own_banks m mem ws g.states i d (nobody mem d) ok.ranged g.mapped g.many g.chip_in)

    memory_size : length memory ≡ length mem
    memory_size = ap length g.memory_is ∙ length_placed_all mem ws g.states

    in_samples : t.sample < length xs
    in_samples = omega (arith, sample_count bytes, less)

    next_sample : drop t.sample xs ≡ x ∷ drop (suc t.sample) xs
    next_sample =
        drop-cons xs t.sample x in_samples
        ∙ ap (λ (y : Sample). y ∷ drop (suc t.sample) xs) (sample_here bytes t.sample x (omega (arith, less)))

    good_lines : x.lines ≤ 15
    good_lines =
        let good =
        and_right (leb (length bytes) (2 * 65536)) (all_good (length ws) xs)
        (and_right (eqb (length bytes % 2) 0) (leb (length bytes) (2 * 65536) && all_good (length ws) xs) ok.samples) in
        subst (λ (y : Sample). y.lines ≤ 15) (sample_here bytes t.sample x (omega (arith, less))) (good_at (length ws) xs t.sample x good in_samples)

    abbrev rb : List ℕ
    rb = joined_records (record_at m i s x)

    abbrev s' : State
    s' = state_after m i s x

    abbrev states' : List State
    states' = set g.states i s'

    -- which turn comes next, and that what is left from it on follows the record of this one
    record Next (t' : Turn) : Type 0 where
      in_list : t'.chip < length ws
      at_after : t'.at ≡ t.at + length rb
      run_on : resume m i g.states (x ∷ drop (suc t.sample) xs) ≡ resume m t'.chip states' (drop t'.sample xs)
      records_on : resumed m i g.states (x ∷ drop (suc t.sample) xs) ≡ record_at m i s x ++ resumed m t'.chip states' (drop t'.sample xs)

    next_is : (chips : ℕ) → chips ≡ length ws → Next (turn_after chips t (length rb))
    next_is chips e = each Next (ltb (i + 1) chips) more last
      where
        more : ltb (i + 1) chips ≡ true → Next (turn t.sample (i + 1) (t.at + length rb))
        more h = record {
          in_list = subst (λ (k : ℕ). i + 1 < k) e (ltb-true (i + 1) chips h);
          at_after = refl;
          run_on = resume_next m i g.states x (nobody mem d) many_in (drop (suc t.sample) xs) ∙ ap (resume m (i + 1) states') (sym next_sample);
          records_on =
              resumed_next m i g.states x (nobody mem d) many_in (drop (suc t.sample) xs)
              ∙ ap (λ (l : List Sample). record_at m i s x ++ resumed m (i + 1) states' l) (sym next_sample);
        }

        last : ltb (i + 1) chips ≡ false → Next (turn (t.sample + 1) 0 (t.at + length rb))
        last h =
            let over : length g.states ≤ i + 1 = omega (arith, g.many, e, ltb-false (i + 1) chips h) in
            let suc-is = ap (λ (k : ℕ). drop k xs) (sym (add-one t.sample)) in
            record {
              in_list = ok.one;
              at_after = refl;
              run_on = resume_last m i g.states x (nobody mem d) many_in (drop (suc t.sample) xs) over ∙ ap (resume m 0 states') suc-is;
              records_on =
                  resumed_last m i g.states x (nobody mem d) many_in (drop (suc t.sample) xs) over
                  ∙ ap (λ (l : List Sample). record_at m i s x ++ resumed m 0 states' l) suc-is;
            }

    -- the records so far and that of this turn are among all
    record_fits : t.at + length rb ≤ length old
    record_fits =
        let next = next_is (length ws) refl in
        let rest = resumed m (turn_after (length ws) t (length rb)).chip states' (drop (turn_after (length ws) t (length rb)).sample xs) in
        let all =
        sym g.records_resumed ∙ ap (λ (l : List Sample). g.done ++ resumed m i g.states l) next_sample
        ∙ ap (λ (l : List (List ℕ)). g.done ++ l) next.records_on in
        let bytes-all =
        ap joined_records all ∙ bytes_append g.done (record_at m i s x ++ rest)
        ∙ ap (λ (l : List ℕ). joined_records g.done ++ l) (bytes_append (record_at m i s x) rest) in
        let size =
        ap length bytes-all ∙ length-append (joined_records g.done) (rb ++ joined_records rest)
        ∙ ap (λ (k : ℕ). length (joined_records g.done) + k) (length-append rb (joined_records rest)) in
        omega (arith, g.at_is, size, all_fit)

    pub going_asked : Stepping m (get_or cur i d) memory bytes new t
    going_asked =
        let fits = ranged_at m mem ws i d ok.ranged g.chip_in in
        let same = ap (λ (k : State). length (joined_records (record_at m i k x))) holds in
        let there = ap length g.records_are ∙ length-sets old 0 (joined_records g.done) in
        subst (λ (u : Member). Stepping m u memory bytes new t) (sym here) (record {
          sound =
              subst (λ (u : Member). sound_member u ≡ true) here
              (sound_at cur i d g.sound (omega (arith, ap length g.members_are, length_with ws g.states g.many, g.chip_in)));
          active_size = fits.active_size_is;
          buffer_size = fits.buffer_size_is;
          within = within m mem memory w fits memory_size;
          number = omega (arith, g.chip_in, ok.eight);
          sample = omega (arith, less);
          lines = good_lines;
          room = omega (arith, same, there, record_fits);
        })

    module _
        (state_sound : (mem' : List ℕ) (u : Member) (y : Sample) → sound_member u ≡ true → sound_member (member_with u (state_after m i (state_of mem' u) y)) ≡ true)
        (banks-mapped : (k : State) (y : Sample) → Mapped m k.banks → Mapped m (state_after m i k y).banks) where
      mapped_here : Mapped m s.banks
      mapped_here =
          subst (Mapped m) (ap (λ (k : State). k.banks) holds) (mapped_held m mem memory w (ranged_at m mem ws i d ok.ranged g.chip_in) memory_size)

      pub going_stepped : {r : Stepped} {memory' new' : List ℕ} → HasStepped m (get_or cur i d) (length cur) memory bytes new t r memory' new'
          → At r.turn (set cur i r.member) memory' new'
      going_stepped {r} {memory'} {new'} h₀ =
          let h = subst (λ (u : Member). HasStepped m u (length cur) memory bytes new t r memory' new') here h₀ in
          let long = ap length g.members_are ∙ length_with ws g.states g.many in
          let after = ap (λ (k : State). state_after m i k x) holds in
          let bytes_are = ap (λ (k : State). joined_records (record_at m i k x)) holds in
          let member_is = h.member_after ∙ ap (member_with w) after in
          let next = next_is (length cur) long in
          let turn_is = h.turn_is ∙ ap (λ (l : List ℕ). turn_after (length cur) t (length l)) bytes_are in
          let mapped' = banks-mapped s x mapped_here in
          let sound-v = subst (λ (u : Member). sound_member u ≡ true) here (sound_at cur i d g.sound (omega (arith, long, g.chip_in))) in
          subst (λ (t' : Turn). At t' (set cur i r.member) memory' new') (sym turn_is) (record {
            states = states';
            done = g.done ++ record_at m i s x;
            many = length-set g.states i s' ∙ g.many;
            chip_in = next.in_list;
            members_are = ap₂ (λ (l : List Member) (u : Member). set l i u) g.members_are member_is ∙ with_set ws g.states i d s' g.many g.chip_in;
            memory_is =
                h.memory_after
                ∙ ap₂ (λ (l : List ℕ) (k : State). placed l w.active_start w.buffer_start k.banks) g.memory_is after
                ∙ placed_for m mem ws g.states i d s' ok.ranged g.mapped mapped' g.many g.chip_in;
            sound =
                sound_set cur i r.member g.sound (subst (λ (u : Member). sound_member u ≡ true) (sym h.member_after) (state_sound memory v x sound-v));
            mapped = mapped_set m g.states i s' g.mapped mapped';
            records_are =
                h.records_after ∙ ap₂ (λ (l k : List ℕ). sets l t.at k) g.records_are bytes_are
                ∙ ap (λ (k : ℕ). sets (sets old 0 (joined_records g.done)) k rb) (g.at_is ∙ sym (zero-add (length (joined_records g.done))))
                ∙ sym (sets_append (joined_records g.done) rb old 0) ∙ ap (sets old 0) (sym (bytes_append g.done (record_at m i s x)));
            at_is =
                next.at_after ∙ ap (λ (k : ℕ). k + length rb) g.at_is
                ∙ sym (ap length (bytes_append g.done (record_at m i s x)) ∙ length-append (joined_records g.done) rb);
            run_is = sym next.run_on ∙ sym (ap (resume m i g.states) next_sample) ∙ g.run_is;
            records_resumed =
                append_assoc g.done (record_at m i s x)
                (resumed m (turn_after (length cur) t (length rb)).chip states' (drop (turn_after (length cur) t (length rb)).sample xs))
                ∙ ap (λ (l : List (List ℕ)). g.done ++ l) (sym next.records_on)
                ∙ sym (ap (λ (l : List Sample). g.done ++ resumed m i g.states l) next_sample) ∙ g.records_resumed;
          })
