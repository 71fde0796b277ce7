-- A memory that is cut between a chip's two ranges, so that both are lent at once: what a transfer leaves in the two parts.
use mathlib.Core.Path.{◌≡◌, refl, sym, ap, ap₂, ◌∙◌}
use mathlib.Core.List.{List, [], ◌∷◌, ◌++◌}
use mathlib.Core.Logic.{⊎_elim}
use Prim.Native.Nat.{ℕ, suc, ◌+◌, ◌-◌, ◌<◌, ◌≤◌}
use native.Mathlib.Omega.{arith}
use lib.ListN.{length, take, drop, set, length-set, length-drop}
use lib.Seq.{sets, drop_at}
use Rattle.std.proofs.lemmas.List.{set-append_left, take-append-le, drop-append-le, take_at}
use Rattle.reg_banks.specs.Banks.{banks, transferred}
use Rattle.reg_ranges.specs.Ranges.{part, banks_in, placed, RangesWithin}
use Rattle.reg_ranges.proofs.Laws.{put_back, lent_back, length_part, placed_active}

-- what is put in the lower part
sets_left : (P l r : List ℕ) (a : ℕ) → a + length P ≤ length l → sets (l ++ r) a P ≡ sets l a P ++ r
sets_left [] l r a h = refl
sets_left (x ∷ P) l r a h =
    ap (λ (k : List ℕ). sets k (suc a) P) (set-append_left l r a x (omega arith)) ∙ sets_left P (set l a x) r (suc a) (omega (arith, length-set l a x))

part_left : (l r : List ℕ) (n a : ℕ) → a + n ≤ length l → part (l ++ r) n a ≡ part l n a
part_left l r n a h = ap (take n) (drop-append-le a l r (omega arith)) ∙ take-append-le n (drop a l) r (omega (arith, length-drop a l))

-- a range as it is lent
lent : (l : List ℕ) (n a : ℕ) → take (a + n - a) (drop a l) ≡ part l n a
lent l n a =
    let e : a + n - a ≡ n = omega arith in ap (λ (k : ℕ). take k (drop a l)) e

module _ {m mem : List ℕ} {n a b : ℕ} (w : RangesWithin m mem n a b) (low high : List ℕ) {P : List ℕ} (cut : mem ≡ low ++ high) where
  -- the active range lies in the lower part, and the buffer range begins the upper one
  pub cut_at_buffer : length low ≡ b → a < b → length P ≡ length (take (a + n - a) (drop a low))
      → banks P (take n high) ≡ transferred m (banks (take (a + n - a) (drop a low)) (take n high))
      → (take a low ++ (P ++ drop (a + n - a) (drop a low))) ++ high ≡ placed mem a b (transferred m (banks_in mem n a b))
  cut_at_buffer at less long e =
      let below : a + n ≤ length low = ⊎_elim (λ h. omega (arith, at, h)) (λ h. omega (arith, at, less, h)) w.apart in
      let size : length P ≡ n = long ∙ ap length (lent low n a) ∙ length_part low n a below in
      let here : part mem n a ≡ take (a + n - a) (drop a low) =
      ap (λ (l : List ℕ). part l n a) cut ∙ part_left low high n a below ∙ sym (lent low n a) in
      let there : part mem n b ≡ take n high = ap (λ (l : List ℕ). part l n b) cut ∙ ap (take n) (drop_at low high b at) in
      ap (λ (l : List ℕ). l ++ high) (lent_back P low n a size below)
      ∙ sym (ap (λ (l : List ℕ). sets l a P) cut ∙ sets_left P low high a (omega (arith, size, below)))
      ∙ sym (placed_active w P size)
      ∙ ap (placed mem a b) (ap (banks P) there ∙ e ∙ sym (ap₂ (λ (x y : List ℕ). transferred m (banks x y)) here there))

  -- the buffer range lies in the lower part, and the active range begins the upper one
  pub cut_at_active : length low ≡ a → b ≤ a → length P ≡ length (take n high)
      → banks P (take (b + n - b) (drop b low)) ≡ transferred m (banks (take n high) (take (b + n - b) (drop b low)))
      → low ++ (P ++ drop n high) ≡ placed mem a b (transferred m (banks_in mem n a b))
  cut_at_active at most long e =
      let below : b + n ≤ length low = ⊎_elim (λ h. omega (arith, at, most, h)) (λ h. omega (arith, at, h)) w.apart in
      let front : take a mem ≡ low = ap (take a) cut ∙ take_at low high a at in
      let back : drop a mem ≡ high = ap (drop a) cut ∙ drop_at low high a at in
      let here : part mem n a ≡ take n high = ap (take n) back in
      let there : part mem n b ≡ take (b + n - b) (drop b low) =
      ap (λ (l : List ℕ). part l n b) cut ∙ part_left low high n b below ∙ sym (lent low n b) in
      let size : length P ≡ n = long ∙ ap length (sym here) ∙ length_part mem n a w.active_fits in
      sym (ap₂ (λ (f : List ℕ) (k : ℕ). f ++ (P ++ drop k (drop a mem))) front size ∙ ap (λ (l : List ℕ). low ++ (P ++ drop n l)) back)
      ∙ put_back P mem a (omega (arith, size, w.active_fits))
      ∙ sym (placed_active w P size)
      ∙ ap (placed mem a b) (ap (banks P) there ∙ e ∙ sym (ap₂ (λ (x y : List ℕ). transferred m (banks x y)) here there))
