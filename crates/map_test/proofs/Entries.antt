-- Runs of entries by a table of kinds: the loop over one, a table's places and all beyond as one, and each entry of a good one.
use mathlib.Core.Path.{◌≡◌, refl, ap, sym, ◌∙◌}
use mathlib.Core.Bool.{Bool, true, ◌&&◌, and_assoc, and-true}
use mathlib.Core.List.{List, []}
use Prim.Native.Nat.{ℕ, zero, suc, ◌+◌, ◌-◌, ◌≤◌, ◌<◌}
use native.Mathlib.Nat.{add-zero, zero-add, suc-add}
use native.Mathlib.Omega.{arith}
use lib.ListN.{length}
use Rattle.base_bits.proofs.Cases.{and_left, and_right}
use Rattle.map_format.specs.Format.{least_count, count_of, register_at}
use Rattle.map_test.specs.MapTest.{Formed, kind_rule, place_rule, entry_good, entries_good}
use Rattle.map_test.proofs.PlaceKinds.{beyond_free}

-- what a loop from first to last has found before address a, with the rest of the entries, is the whole
abbrev pub Tested : List ℕ → List ℕ → ℕ → ℕ → Bool → ℕ → Type 0
Tested kinds m first last good a = (good && entries_good kinds m a (last - a)) ≡ entries_good kinds m first (last - first)

module _ (kinds m : List ℕ) (first last : ℕ) (good : Bool) (a : ℕ) (t : Tested kinds m first last good a) where
  pub again :
      (k p : Bool) → a < last → k ≡ kind_rule (register_at m a) → p ≡ place_rule kinds a (register_at m a).kind
      → Tested kinds m first last (good && k && p) (a + 1)
  unfolding entries_good entry_good
  again k p h ek ep =
      let e : suc (last - (a + 1)) ≡ last - a = omega arith in
      rw (and_assoc good k p, ek, ep, and_assoc good) (ap (λ (x : ℕ). good && entries_good kinds m a x) e ∙ t)

  pub ended : last ≤ a → good ≡ entries_good kinds m first (last - first)
  unfolding entries_good
  ended h =
      let e : 0 ≡ last - a = omega arith in
      sym (and-true good) ∙ ap (λ (x : ℕ). good && entries_good kinds m a x) e ∙ t

two_runs : (kinds m : List ℕ) (a j k : ℕ) → entries_good kinds m a (j + k) ≡ (entries_good kinds m a j && entries_good kinds m (a + j) k)
unfolding entries_good
two_runs kinds m a zero k = rw (zero-add k, add-zero a)
two_runs kinds m a (suc j) k =
    let e : a + suc j ≡ a + 1 + j = omega arith in
    rw (suc-add j k, e, two_runs kinds m (a + 1) j k)
    (sym (and_assoc (entry_good kinds a (register_at m a)) (entries_good kinds m (a + 1) j) (entries_good kinds m (a + 1 + j) k)))

-- beyond the table no entry is asked for a kind, as by the empty table
beyond_good : (kinds m : List ℕ) (a k : ℕ) → length kinds ≤ a → entries_good [] m a k ≡ entries_good kinds m a k
unfolding entries_good entry_good
beyond_good kinds m a zero h = refl
beyond_good kinds m a (suc k) h = rw (beyond_free kinds a (register_at m a).kind h, beyond_good kinds m (a + 1) k (omega arith))

-- all entries in two parts: those of the table's places, and those beyond
pub two_parts :
    (kinds m : List ℕ) (p o : Bool) → Formed m → length kinds ≤ least_count
    → p ≡ entries_good kinds m 0 (length kinds) → o ≡ entries_good [] m (length kinds) (count_of m - length kinds)
    → (p && o) ≡ entries_good kinds m 0 (count_of m)
two_parts kinds m p o g short ep eo =
    let j = length kinds in
    let e : j + (count_of m - j) ≡ count_of m = omega (arith, g.least, short) in
    rw (ep, eo, beyond_good kinds m j (count_of m - j) (omega arith))
    (rw (zero-add j) at (sym (two_runs kinds m 0 j (count_of m - j))) ∙ ap (entries_good kinds m 0) e)

pub entries_each :
    (kinds m : List ℕ) (a k : ℕ) → entries_good kinds m a k ≡ true
    → (i : ℕ) → i < k → entry_good kinds (a + i) (register_at m (a + i)) ≡ true
unfolding entries_good
entries_each kinds m a zero h i l = absurd (omega arith)
entries_each kinds m a (suc k) h zero l = rw (add-zero a) (and_left (entry_good kinds a (register_at m a)) (entries_good kinds m (a + 1) k) h)
entries_each kinds m a (suc k) h (suc i) l =
    let e : a + suc i ≡ a + 1 + i = omega arith in
    rw e
    (entries_each kinds m (a + 1) k (and_right (entry_good kinds a (register_at m a)) (entries_good kinds m (a + 1) k) h) i (omega arith))
