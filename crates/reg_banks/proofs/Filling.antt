-- A walk over a bank from the front, where a rule makes each byte of its address and the byte that was there.
use mathlib.Core.Path.{◌≡◌, refl, sym, ◌∙◌, ap}
use mathlib.Core.List.{List, [], ◌∷◌, ◌++◌, append-nil}
use Prim.Native.Nat.{ℕ, zero, suc, ◌+◌, ◌<◌, ◌≤◌}
use native.Mathlib.Omega.{arith}
use native.Mathlib.Numerals.{add-one}
use lib.ListN.{length, get_or, take, drop, set, length-set, drop_of_length-le}
use lib.Seq.{drop-cons, take-suc-set, drop-set-lt, append_snoc, take_all, set-get_or}

-- rest a l: the bytes of l, which stand from address a on, as the rule f makes them
pub record Rule (f : ℕ → ℕ → ℕ) (rest : ℕ → List ℕ → List ℕ) : Type 0 where
  pub none : (a : ℕ) → rest a [] ≡ []
  pub one : (a x : ℕ) (l : List ℕ) → rest a (x ∷ l) ≡ f a x ∷ rest (a + 1) l

-- The loop's invariant: what is done below i, with the rule for the rest, is the whole.
pub record Filling (rest : ℕ → List ℕ → List ℕ) (old new : List ℕ) (i : ℕ) : Type 0 where
  pub within : i ≤ length new
  pub same : length new ≡ length old
  pub whole : take i new ++ rest i (drop i new) ≡ rest 0 old

pub filling_begun : (rest : ℕ → List ℕ → List ℕ) (l : List ℕ) → Filling rest l l 0
filling_begun rest l = record { within = omega arith; same = refl; whole = refl }

module _ {f : ℕ → ℕ → ℕ} {rest : ℕ → List ℕ → List ℕ} (r : Rule f rest) where
  pub length_rest : (a : ℕ) (l : List ℕ) → length (rest a l) ≡ length l
  length_rest a [] = ap length (r.none a)
  length_rest a (x ∷ l) = ap length (r.one a x l) ∙ ap suc (length_rest (a + 1) l)

  pub get_d_rest_lem : (a : ℕ) (l : List ℕ) (i : ℕ) → i < length l → get_or (rest a l) i 0 ≡ f (a + i) (get_or l i 0)
  get_d_rest_lem a [] i h = absurd (omega arith)
  get_d_rest_lem a (x ∷ l) zero h =
      let e : a ≡ a + 0 = omega arith in
      ap (λ (k : List ℕ). get_or k 0 0) (r.one a x l) ∙ ap (λ (n : ℕ). f n x) e
  get_d_rest_lem a (x ∷ l) (suc i) h =
      let e : a + 1 + i ≡ a + suc i = omega arith in
      ap (λ (k : List ℕ). get_or k (suc i) 0) (r.one a x l)
      ∙ get_d_rest_lem (a + 1) l i (omega arith)
      ∙ ap (λ (n : ℕ). f n (get_or l i 0)) e

  module _ {old new : List ℕ} {i : ℕ} (k : Filling rest old new i) where
    -- the byte at i is stored as the rule makes it
    pub stored : (v : ℕ) → i < length new → v ≡ f i (get_or new i 0) → Filling rest old (set new i v) (i + 1)
    stored v h e = record {
      within = omega (arith, length-set new i v);
      same = length-set new i v ∙ k.same;
      whole =
          ap (λ (l : List ℕ). take (i + 1) (set new i v) ++ rest (i + 1) l) (drop-set-lt (i + 1) new i v (omega arith))
          ∙ ap (λ (l : List ℕ). l ++ rest (i + 1) (drop (i + 1) new)) front
          ∙ append_snoc (take i new) v (rest (i + 1) (drop (i + 1) new))
          ∙ ap (λ (l : List ℕ). take i new ++ l) (sym back)
          ∙ k.whole;
    }
      where
        front : take (i + 1) (set new i v) ≡ take i new ++ (v ∷ [])
        front = rw add-one (take-suc-set new i v h)

        back : rest i (drop i new) ≡ v ∷ rest (i + 1) (drop (i + 1) new)
        back = rw (drop-cons new i 0 h, r.one i (get_or new i 0) (drop (suc i) new), ← e, add-one)

    -- the byte at i is as the rule makes it already
    pub kept : i < length new → get_or new i 0 ≡ f i (get_or new i 0) → Filling rest old new (i + 1)
    kept h e = rw set-get_or at (stored (get_or new i 0) h e)

    pub ended : length new ≤ i → new ≡ rest 0 old
    ended h = rw (take_all i new h, drop_of_length-le new h, r.none i, append-nil) at k.whole
