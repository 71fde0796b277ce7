-- Laws of ranges of a memory: what one range shows of what was put in it, beside it and far from it.
use mathlib.Core.Path.{◌≡◌, refl, sym, ap, ap₂, ◌∙◌, subst}
use mathlib.Core.List.{List, [], ◌∷◌, ◌++◌, append_assoc}
use mathlib.Core.Logic.{◌⊎◌, inl, inr, ⊎_elim}
use Prim.Native.Nat.{ℕ, zero, suc, ◌+◌, ◌-◌, ◌<◌, ◌≤◌}
use native.Mathlib.Omega.{arith}
use native.Mathlib.Nat.{add-zero}
use lib.ListN.{length, get_or, take, drop, set, length-set}
use lib.Seq.{sets, sets-eq, length-sets, set_comm, set-set, set-get_or, get_or-set_other, get_or-take, get_or-drop}
use lib.Seq.{length-take-le, take-append_seam, take-set-lt, take-set-le, drop_at, drop-cons, drop-drop, drop-set-lt, drop-set-add}
use Rattle.base_chip.specs.declared.Chip.TheVariants.{Newer}
use Rattle.reg_banks.specs.Banks.{Banks, banks, Mapped}
use Rattle.reg_write.specs.Write.{effect_at, ByteBelow}
use Rattle.reg_write.proofs.Laws.{byte_below}
use Rattle.reg_ranges.specs.Ranges.{part, banks_in, placed, Far, RangesWithin}

-- ---- a run of stores

-- a store below it may as well come first
set_first : (P l : List ℕ) (b i v : ℕ) → i < b → set (sets l b P) i v ≡ sets (set l i v) b P
set_first [] l b i v h = refl
set_first (x ∷ P) l b i v h =
    set_first P (set l b x) (suc b) i v (omega arith)
    ∙ ap (λ (k : List ℕ). sets k (suc b) P) (set_comm l b i x v (λ e. absurd (omega (arith, e))))

-- a store inside what was put is a store to it before it is put
pub set_inside : (P l : List ℕ) (a i v : ℕ) → i < length P → set (sets l a P) (a + i) v ≡ sets l a (set P i v)
set_inside [] l a i v h = absurd (omega arith)
set_inside (x ∷ P) l a zero v h =
    ap (λ (k : ℕ). set (sets (set l a x) (suc a) P) k v) (add-zero a)
    ∙ set_first P (set l a x) (suc a) a v (omega arith)
    ∙ ap (λ (k : List ℕ). sets k (suc a) P) (set-set l a x v)
set_inside (x ∷ P) l a (suc i) v h =
    let e : a + suc i ≡ suc a + i = omega arith in
    ap (λ (k : ℕ). set (sets (set l a x) (suc a) P) k v) e ∙ set_inside P (set l a x) (suc a) i v (omega arith)

-- outside what was put nothing changes
pub get_d_outside_lem : (P l : List ℕ) (a j : ℕ) → (j < a) ⊎ (a + length P ≤ j) → get_or (sets l a P) j 0 ≡ get_or l j 0
get_d_outside_lem [] l a j o = refl
get_d_outside_lem (x ∷ P) l a j (inl h) =
    get_d_outside_lem P (set l a x) (suc a) j (inl (omega arith)) ∙ get_or-set_other l a j x 0 (λ e. absurd (omega (arith, e)))
get_d_outside_lem (x ∷ P) l a j (inr h) =
    get_d_outside_lem P (set l a x) (suc a) j (inr (omega arith)) ∙ get_or-set_other l a j x 0 (λ e. absurd (omega (arith, e)))

-- what is there already is put for nothing
pub sets_self : (n : ℕ) (l : List ℕ) (a : ℕ) → a + n ≤ length l → sets l a (part l n a) ≡ l
sets_self zero l a h = refl
sets_self (suc n) l a h =
    ap (λ (k : List ℕ). sets l a (take (suc n) k)) (drop-cons l a 0 (omega arith))
    ∙ ap (λ (k : List ℕ). sets k (suc a) (part l n (suc a))) (set-get_or l a 0)
    ∙ sets_self n l (suc a) (omega arith)

-- what is put leaves what stands below it and above it
pub put_back : (ys l : List ℕ) (a : ℕ) → a + length ys ≤ length l → take a l ++ (ys ++ drop (length ys) (drop a l)) ≡ sets l a ys
put_back ys l a h =
    ap (λ (k : List ℕ). take a l ++ (ys ++ k)) (drop-drop (length ys) a l)
    ∙ sym (append_assoc (take a l) ys (drop (a + length ys) l))
    ∙ sym (sets-eq ys l a h)

-- ---- a range that is lent, as `&memory[a..a + n]`

-- what comes back is what was put there
pub lent_back : (ys l : List ℕ) (n a : ℕ) → length ys ≡ n → a + n ≤ length l → take a l ++ (ys ++ drop (a + n - a) (drop a l)) ≡ sets l a ys
lent_back ys l n a e h =
    let size : a + n - a ≡ length ys = omega (arith, e) in
    ap (λ (k : ℕ). take a l ++ (ys ++ drop k (drop a l))) size ∙ put_back ys l a (omega (arith, e))

-- two that are lent to be read are the banks
pub lent_banks : (mem : List ℕ) (n a b : ℕ) → banks (take (a + n - a) (drop a mem)) (take (b + n - b) (drop b mem)) ≡ banks_in mem n a b
lent_banks mem n a b = ap₂ banks (size a) (size b)
  where
    size : (c : ℕ) → take (c + n - c) (drop c mem) ≡ part mem n c
    size c =
        let e : c + n - c ≡ n = omega arith in ap (λ (k : ℕ). take k (drop c mem)) e

-- ---- one range

pub length_part : (l : List ℕ) (n a : ℕ) → a + n ≤ length l → length (part l n a) ≡ n
length_part l zero a h = refl
length_part l (suc n) a h =
    ap (λ (k : List ℕ). length (take (suc n) k)) (drop-cons l a 0 (omega arith)) ∙ ap suc (length_part l n (suc a) (omega arith))

pub get_d_part : (l : List ℕ) (n a i : ℕ) → i < n → get_or (part l n a) i 0 ≡ get_or l (a + i) 0
get_d_part l n a i h = get_or-take n (drop a l) i 0 h ∙ get_or-drop a l i 0

-- a range after a store in it, and after one outside it
pub part_set : (l : List ℕ) (n a i v : ℕ) → i < n → part (set l (a + i) v) n a ≡ set (part l n a) i v
part_set l n a i v h = ap (take n) (drop-set-add a l i v) ∙ take-set-lt n (drop a l) i v h

part_set_outside : (l : List ℕ) (n b j v : ℕ) → (j < b) ⊎ (b + n ≤ j) → part (set l j v) n b ≡ part l n b
part_set_outside l n b j v (inl h) = ap (take n) (drop-set-lt b l j v h)
part_set_outside l n b j v (inr h) =
    let e : j ≡ b + (j - b) = omega arith in
    ap (λ (k : ℕ). part (set l k v) n b) e
    ∙ ap (take n) (drop-set-add b l (j - b) v)
    ∙ take-set-le n (drop b l) (j - b) v (omega arith)

-- a range after something was put beside it
pub part_apart : (P l : List ℕ) (n a b : ℕ) → (a + length P ≤ b) ⊎ (b + n ≤ a) → part (sets l a P) n b ≡ part l n b
part_apart [] l n a b o = refl
part_apart (x ∷ P) l n a b (inl h) =
    part_apart P (set l a x) n (suc a) b (inl (omega arith)) ∙ part_set_outside l n b a x (inl (omega arith))
part_apart (x ∷ P) l n a b (inr h) =
    part_apart P (set l a x) n (suc a) b (inr (omega arith)) ∙ part_set_outside l n b a x (inr h)

put_whole : (P l : List ℕ) (a : ℕ) → a + length P ≤ length l → part (sets l a P) (length P) a ≡ P
put_whole P l a h =
    ap (λ (k : List ℕ). part k (length P) a) (sym (put_back P l a h))
    ∙ ap (take (length P)) (drop_at (take a l) (P ++ drop (length P) (drop a l)) a (length-take-le a l (omega arith)))
    ∙ take-append_seam P (drop (length P) (drop a l))

-- a range that was put is what was put
pub part_own : (P l : List ℕ) (n a : ℕ) → length P ≡ n → a + n ≤ length l → part (sets l a P) n a ≡ P
part_own P l n a e h = subst (λ (k : ℕ). part (sets l a P) k a ≡ P) e (put_whole P l a (omega (arith, e)))

-- ---- the two ranges of a chip

pub length_placed : (mem : List ℕ) (a b : ℕ) (k : Banks) → length (placed mem a b k) ≡ length mem
length_placed mem a b k = length-sets (sets mem a k.active) b k.buffer ∙ length-sets mem a k.active

-- a byte outside what was put in both ranges stays
pub placed_outside : (mem : List ℕ) (n a b j : ℕ) (k : Banks) → length k.active ≡ n → length k.buffer ≡ n
    → (j < a) ⊎ (a + n ≤ j) → (j < b) ⊎ (b + n ≤ j) → get_or (placed mem a b k) j 0 ≡ get_or mem j 0
placed_outside mem n a b j k ea eb oa ob =
    get_d_outside_lem k.buffer (sets mem a k.active) b j (⊎_elim (λ h. inl h) (λ h. inr (omega (arith, eb, h))) ob)
    ∙ get_d_outside_lem k.active mem a j (⊎_elim (λ h. inl h) (λ h. inr (omega (arith, ea, h))) oa)

-- a range that is far from both stays
pub range_other : (mem : List ℕ) (n a b c : ℕ) (k : Banks) → length k.active ≡ n → length k.buffer ≡ n
    → Far n a c → Far n b c → part (placed mem a b k) n c ≡ part mem n c
range_other mem n a b c k ea eb fa fb =
    part_apart k.buffer (sets mem a k.active) n b c (⊎_elim (λ h. inl (omega (arith, eb, h))) (λ h. inr h) fb)
    ∙ part_apart k.active mem n a c (⊎_elim (λ h. inl (omega (arith, ea, h))) (λ h. inr h) fa)

-- and so do the banks of another chip, whose ranges are far from both
pub banks_other : (mem : List ℕ) (n a b c d : ℕ) (k : Banks) → length k.active ≡ n → length k.buffer ≡ n
    → Far n a c → Far n b c → Far n a d → Far n b d → banks_in (placed mem a b k) n c d ≡ banks_in mem n c d
banks_other mem n a b c d k ea eb ac bc ad bd = ap₂ banks (range_other mem n a b c k ea eb ac bc) (range_other mem n a b d k ea eb ad bd)

module _ {m mem : List ℕ} {n a b : ℕ} (w : RangesWithin m mem n a b) where
  -- the banks in them fit the map
  pub mapped_within : Mapped m (banks_in mem n a b)
  mapped_within = record {
    active_size = length_part mem n a w.active_fits ∙ w.count;
    buffer_size = length_part mem n b w.buffer_fits ∙ w.count;
  }

  -- an effect on a byte is below their end
  pub effect_below : (address v : ℕ) → ByteBelow n (effect_at Newer m (banks_in mem n a b) address v)
  effect_below address v =
      subst (λ (k : ℕ). ByteBelow k (effect_at Newer m (banks_in mem n a b) address v)) (length_part mem n a w.active_fits)
      (byte_below Newer mapped_within _ address v)

  -- banks whose buffer stage is the one that is there
  pub placed_active : (P : List ℕ) → length P ≡ n → placed mem a b (banks P (part mem n b)) ≡ sets mem a P
  placed_active P e =
      let far : (a + length P ≤ b) ⊎ (b + n ≤ a) = ⊎_elim (λ h. inl (omega (arith, e, h))) (λ h. inr h) w.apart in
      ap (sets (sets mem a P) b) (sym (part_apart P mem n a b far))
      ∙ sets_self n (sets mem a P) b (omega (arith, length-sets mem a P, w.buffer_fits))

  -- the banks that are there
  pub placed_same : placed mem a b (banks_in mem n a b) ≡ mem
  placed_same = placed_active (part mem n a) (length_part mem n a w.active_fits) ∙ sets_self n mem a w.active_fits

  -- the same but for one byte of the active stage, or of the buffer stage
  pub placed_active_byte : (i v : ℕ) → i < n → placed mem a b (banks (set (part mem n a) i v) (part mem n b)) ≡ set mem (a + i) v
  placed_active_byte i v h =
      let size = length_part mem n a w.active_fits in
      placed_active (set (part mem n a) i v) (length-set (part mem n a) i v ∙ size)
      ∙ sym (set_inside (part mem n a) mem a i v (omega (arith, size)))
      ∙ ap (λ (l : List ℕ). set l (a + i) v) (sets_self n mem a w.active_fits)

  pub placed_buffer_byte : (i v : ℕ) → i < n → placed mem a b (banks (part mem n a) (set (part mem n b) i v)) ≡ set mem (b + i) v
  placed_buffer_byte i v h =
      let size = length_part mem n b w.buffer_fits in
      ap (λ (l : List ℕ). sets l b (set (part mem n b) i v)) (sets_self n mem a w.active_fits)
      ∙ sym (set_inside (part mem n b) mem b i v (omega (arith, size)))
      ∙ ap (λ (l : List ℕ). set l (b + i) v) (sets_self n mem b w.buffer_fits)

  -- a chip finds in its ranges what was put there
  pub banks_own : (k : Banks) → length k.active ≡ n → length k.buffer ≡ n → banks_in (placed mem a b k) n a b ≡ k
  banks_own k ea eb =
      let far : (b + length k.buffer ≤ a) ⊎ (a + n ≤ b) = ⊎_elim (λ h. inr h) (λ h. inl (omega (arith, eb, h))) w.apart in
      ap₂ banks (part_apart k.buffer (sets mem a k.active) n b a far ∙ part_own k.active mem n a ea w.active_fits)
      (part_own k.buffer (sets mem a k.active) n b eb (omega (arith, length-sets mem a k.active, w.buffer_fits)))
