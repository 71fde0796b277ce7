-- The ranges of a list of chips: each chip finds in the memory what was put there for it, and nothing of another's.
use mathlib.Core.Path.{◌≡◌, refl, sym, ap, ap₂, ◌∙◌, subst}
use mathlib.Core.List.{List, [], ◌∷◌}
use mathlib.Core.Logic.{◌⊎◌, inl, inr, ⊎_elim}
use Prim.Native.Nat.{ℕ, zero, suc, ◌+◌, ◌<◌, ◌≤◌}
use native.Mathlib.Omega.{arith}
use lib.ListN.{length, get_or, set}
use lib.Seq.{sets, set_comm, set-set}
use Rattle.map_format.specs.Format.{count_of}
use Rattle.reg_banks.specs.Banks.{Banks, banks, Mapped}
use Rattle.reg_ranges.specs.Ranges.{part, banks_in, placed, Far, RangesWithin}
use Rattle.reg_ranges.proofs.Laws.{mapped_within, placed_same, banks_own, range_other, length_placed}
use Rattle.several_chips.specs.declared.Member.{Member}
use Rattle.several_chips.specs.State.{State}
use Rattle.several_chips.specs.Members.{state_of, states_of, placed_all}

-- ---- runs of stores

-- a store outside a run of stores
set_apart : (P l : List ℕ) (b i v : ℕ) → (i < b) ⊎ (b + length P ≤ i) → set (sets l b P) i v ≡ sets (set l i v) b P
set_apart [] l b i v o = refl
set_apart (x ∷ P) l b i v (inl h) =
    set_apart P (set l b x) (suc b) i v (inl (omega arith)) ∙ ap (λ (k : List ℕ). sets k (suc b) P) (set_comm l b i x v (λ e. absurd (omega (arith, e))))
set_apart (x ∷ P) l b i v (inr h) =
    set_apart P (set l b x) (suc b) i v (inr (omega arith)) ∙ ap (λ (k : List ℕ). sets k (suc b) P) (set_comm l b i x v (λ e. absurd (omega (arith, e))))

-- two runs of stores that don't overlap
sets_comm : (P Q l : List ℕ) (a b : ℕ) → (a + length P ≤ b) ⊎ (b + length Q ≤ a) → sets (sets l a P) b Q ≡ sets (sets l b Q) a P
sets_comm [] Q l a b o = refl
sets_comm (x ∷ P) Q l a b (inl h) =
    sets_comm P Q (set l a x) (suc a) b (inl (omega arith)) ∙ ap (λ (k : List ℕ). sets k (suc a) P) (sym (set_apart Q l b a x (inl (omega arith))))
sets_comm (x ∷ P) Q l a b (inr h) =
    sets_comm P Q (set l a x) (suc a) b (inr (omega arith)) ∙ ap (λ (k : List ℕ). sets k (suc a) P) (sym (set_apart Q l b a x (inr h)))

-- the later of two in the same place
sets_over : (P Q l : List ℕ) (a : ℕ) → length P ≡ length Q → sets (sets l a P) a Q ≡ sets l a Q
sets_over [] Q l a e = refl
sets_over (x ∷ P) [] l a e = absurd (omega (arith, e))
sets_over (x ∷ P) (y ∷ Q) l a e =
    ap (λ (k : List ℕ). sets k (suc a) Q) (set_apart P (set l a x) (suc a) a y (inl (omega arith)) ∙ ap (λ (k : List ℕ). sets k (suc a) P) (set-set l a x y))
    ∙ sets_over P Q (set l a y) (suc a) (omega (arith, e))

-- ---- banks of n bytes, put in two ranges

far_sets : {n a b : ℕ} (P Q l : List ℕ) → length P ≡ n → length Q ≡ n → Far n a b → sets (sets l a P) b Q ≡ sets (sets l b Q) a P
far_sets {n} {a} {b} P Q l ep eq far = sets_comm P Q l a b (⊎_elim (λ h. inl (omega (arith, ep, h))) (λ h. inr (omega (arith, eq, h))) far)

placed_over : {m : List ℕ} {a b : ℕ} (mem : List ℕ) (k j : Banks) → Mapped m k → Mapped m j → Far (count_of m) a b
    → placed (placed mem a b k) a b j ≡ placed mem a b j
placed_over {m} {a} {b} mem k j sk sj far =
    let swap = sym (far_sets j.active k.buffer (sets mem a k.active) sj.active_size sk.buffer_size far) in
    ap (λ (l : List ℕ). sets l b j.buffer)
    (swap ∙ ap (λ (l : List ℕ). sets l b k.buffer) (sets_over k.active j.active mem a (sk.active_size ∙ sym sj.active_size)))
    ∙ sets_over k.buffer j.buffer (sets mem a j.active) b (sk.buffer_size ∙ sym sj.buffer_size)

-- two chips: each range of one is far from each of the other
pub record Separate (n a b c d : ℕ) : Type 0 where
  pub active_active : Far n a c
  pub active_buffer : Far n a d
  pub buffer_active : Far n b c
  pub buffer_buffer : Far n b d

placed_comm : {m : List ℕ} {a b c d : ℕ} (mem : List ℕ) (k j : Banks) → Mapped m k → Mapped m j → Separate (count_of m) a b c d
    → placed (placed mem a b k) c d j ≡ placed (placed mem c d j) a b k
placed_comm {m} {a} {b} {c} {d} mem k j sk sj far =
    ap (λ (l : List ℕ). sets l d j.buffer)
    (far_sets k.buffer j.active (sets mem a k.active) sk.buffer_size sj.active_size far.buffer_active
    ∙ ap (λ (l : List ℕ). sets l b k.buffer) (far_sets k.active j.active mem sk.active_size sj.active_size far.active_active))
    ∙ far_sets k.buffer j.buffer (sets (sets mem c j.active) a k.active) sk.buffer_size sj.buffer_size far.buffer_buffer
    ∙ ap (λ (l : List ℕ). sets l b k.buffer)
    (far_sets k.active j.buffer (sets mem c j.active) sk.active_size sj.buffer_size far.active_buffer)

-- ---- the chips of a list, on a map and a memory of some size

-- the ranges of one chip: as long as the map has registers, in the memory, and apart
pub record Ranged (m : List ℕ) (size : ℕ) (w : Member) : Type 0 where
  pub active_size_is : w.active_length ≡ count_of m
  pub buffer_size_is : w.buffer_length ≡ count_of m
  pub active_fits : w.active_start + count_of m ≤ size
  pub buffer_fits : w.buffer_start + count_of m ≤ size
  pub apart : Far (count_of m) w.active_start w.buffer_start

abbrev pub Between : ℕ → Member → Member → Type 0
Between n w v = Separate n w.active_start w.buffer_start v.active_start v.buffer_start

abbrev pub SeparateFrom : ℕ → Member → List Member → Type 0
SeparateFrom n w [] = Unit {0}
SeparateFrom n w (v ∷ vs) = Between n w v × SeparateFrom n w vs

abbrev pub AllRanged : List ℕ → ℕ → List Member → Type 0
AllRanged m size [] = Unit {0}
AllRanged m size (w ∷ ws) = Ranged m size w × (SeparateFrom (count_of m) w ws × AllRanged m size ws)

abbrev pub AllMapped : List ℕ → List State → Type 0
AllMapped m [] = Unit {0}
AllMapped m (s ∷ ss) = Mapped m s.banks × AllMapped m ss

separate_at : {n : ℕ} (w : Member) (ws : List Member) (k : ℕ) (d : Member) → SeparateFrom n w ws → k < length ws → Between n w (get_or ws k d)
separate_at w [] k d all h = absurd (omega arith)
separate_at w (v ∷ ws) zero d all h = all.0
separate_at w (v ∷ ws) (suc k) d all h = separate_at w ws k d all.1 (omega arith)

pub mapped_set : (m : List ℕ) (ss : List State) (k : ℕ) (s : State) → AllMapped m ss → Mapped m s.banks → AllMapped m (set ss k s)
mapped_set m [] k s all h = tt
mapped_set m (t ∷ ss) zero s all h = (h, all.1)
mapped_set m (t ∷ ss) (suc k) s all h = (all.0, mapped_set m ss k s all.1 h)

pub length_placed_all : (mem : List ℕ) (ws : List Member) (ss : List State) → length (placed_all mem ws ss) ≡ length mem
unfolding placed_all
length_placed_all mem [] ss = refl
length_placed_all mem (w ∷ ws) [] = refl
length_placed_all mem (w ∷ ws) (s ∷ ss) = length_placed (placed_all mem ws ss) w.active_start w.buffer_start s.banks ∙ length_placed_all mem ws ss

module _ (m mem : List ℕ) where
  abbrev n : ℕ
  n = count_of m

  abbrev Fits : Member → Type 0
  Fits w = Ranged m (length mem) w

  pub ranged_at : (ws : List Member) (k : ℕ) (d : Member) → AllRanged m (length mem) ws → k < length ws → Fits (get_or ws k d)
  ranged_at [] k d all h = absurd (omega arith)
  ranged_at (w ∷ ws) zero d all h = all.0
  ranged_at (w ∷ ws) (suc k) d all h = ranged_at ws k d all.1.1 (omega arith)

  -- the ranges of a chip, in any memory of the size
  pub within : (new : List ℕ) (w : Member) → Fits w → length new ≡ length mem → RangesWithin m new n w.active_start w.buffer_start
  within new w r e = record { count = refl; active_fits = omega (arith, e, r.active_fits); buffer_fits = omega (arith, e, r.buffer_fits); apart = r.apart }

  -- its banks there
  pub banks_are : (new : List ℕ) (w : Member) → Fits w → (state_of new w).banks ≡ banks_in new n w.active_start w.buffer_start
  banks_are new w r = ap₂ (λ (j k : ℕ). banks (part new j w.active_start) (part new k w.buffer_start)) r.active_size_is r.buffer_size_is

  pub mapped_held : (new : List ℕ) (w : Member) → Fits w → length new ≡ length mem → Mapped m (state_of new w).banks
  mapped_held new w r e = subst (Mapped m) (sym (banks_are new w r)) (mapped_within (within new w r e))

  -- the banks of a chip after what was put in the ranges of another
  banks_other : (new : List ℕ) (w v : Member) → Fits v → Between n w v → (k : Banks) → Mapped m k
      → (state_of (placed new w.active_start w.buffer_start k) v).banks ≡ (state_of new v).banks
  banks_other new w v r far k mapped =
      banks_are (placed new w.active_start w.buffer_start k) v r
      ∙ ap₂ banks (range_other new n _ _ _ k mapped.active_size mapped.buffer_size far.active_active far.buffer_active)
      (range_other new n _ _ _ k mapped.active_size mapped.buffer_size far.active_buffer far.buffer_buffer)
      ∙ sym (banks_are new v r)

  -- a chip finds its own banks in the memory of all
  pub own_banks : (ws : List Member) (ss : List State) (k : ℕ) (d : Member) (e : State) → AllRanged m (length mem) ws → AllMapped m ss
      → length ss ≡ length ws → k < length ws → (state_of (placed_all mem ws ss) (get_or ws k d)).banks ≡ (get_or ss k e).banks
  unfolding placed_all
  own_banks [] ss k d e all mapped same h = absurd (omega arith)
  own_banks (w ∷ ws) [] k d e all mapped same h = absurd (omega (arith, same))
  own_banks (w ∷ ws) (s ∷ ss) zero d e all mapped same h =
      banks_are (placed_all mem (w ∷ ws) (s ∷ ss)) w all.0
      ∙ banks_own (within (placed_all mem ws ss) w all.0 (length_placed_all mem ws ss)) s.banks mapped.0.active_size mapped.0.buffer_size
  own_banks (w ∷ ws) (s ∷ ss) (suc k) d e all mapped same h =
      banks_other (placed_all mem ws ss) w (get_or ws k d) (ranged_at ws k d all.1.1 (omega arith)) (separate_at w ws k d all.1.0 (omega arith)) s.banks
      mapped.0
      ∙ own_banks ws ss k d e all.1.1 mapped.1 (omega (arith, same)) (omega arith)

  -- banks that are put in the ranges of one chip are put for that chip
  pub placed_for : (ws : List Member) (ss : List State) (k : ℕ) (d : Member) (s' : State) → AllRanged m (length mem) ws → AllMapped m ss
      → Mapped m s'.banks → length ss ≡ length ws → k < length ws
      → placed (placed_all mem ws ss) (get_or ws k d).active_start (get_or ws k d).buffer_start s'.banks ≡ placed_all mem ws (set ss k s')
  unfolding placed_all
  placed_for [] ss k d s' all mapped h' same h = absurd (omega arith)
  placed_for (w ∷ ws) [] k d s' all mapped h' same h = absurd (omega (arith, same))
  placed_for (w ∷ ws) (s ∷ ss) zero d s' all mapped h' same h = placed_over (placed_all mem ws ss) s.banks s'.banks mapped.0 h' all.0.apart
  placed_for (w ∷ ws) (s ∷ ss) (suc k) d s' all mapped h' same h =
      placed_comm (placed_all mem ws ss) s.banks s'.banks mapped.0 h' (separate_at w ws k d all.1.0 (omega arith))
      ∙ ap (λ (l : List ℕ). placed l w.active_start w.buffer_start s.banks)
      (placed_for ws ss k d s' all.1.1 mapped.1 h' (omega (arith, same)) (omega arith))

  -- what is in the ranges is put for nothing
  pub placed_all_same : (ws : List Member) → AllRanged m (length mem) ws → placed_all mem ws (states_of mem ws) ≡ mem
  unfolding placed_all
  placed_all_same [] all = refl
  placed_all_same (w ∷ ws) all =
      ap₂ (λ (l : List ℕ) (k : Banks). placed l w.active_start w.buffer_start k) (placed_all_same ws all.1.1) (banks_are mem w all.0)
      ∙ placed_same (within mem w all.0 refl)

  pub all_mapped : (ws : List Member) → AllRanged m (length mem) ws → AllMapped m (states_of mem ws)
  all_mapped [] all = tt
  all_mapped (w ∷ ws) all = (mapped_held mem w all.0 refl, all_mapped ws all.1.1)
