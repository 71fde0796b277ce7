-- The list, put back into the mended map entry by entry, gives the old map.
use mathlib.Core.Path.{◌≡◌, ap, sym, ◌∙◌}
use mathlib.Core.Bool.{true, ◌&&◌}
use mathlib.Core.List.{List, [], ◌∷◌, ◌++◌, append_assoc, append-nil}
use Prim.Native.Nat.{ℕ, zero, suc, ◌+◌, ◌*◌, ◌/◌, ◌≤◌, ◌<◌}
use native.Mathlib.Omega.{arith}
use lib.ListN.{length, take, drop}
use lib.Seq.{sets, take_all, take-add, drop-cons, length-take-le}
use lib.Dec.{eqb}
use borrow.Author.Tests.{eqb-true}
use Rattle.base_bits.specs.Bytes.{byte_at, word_bytes}
use Rattle.base_bits.proofs.Bytes.{word_back}
use Rattle.base_bits.proofs.Cases.{each, and_left, and_right}
use Rattle.map_format.specs.declared.Entry.{Entry}
use Rattle.map_format.specs.Format.{count_of, entry_start, register_at}
use Rattle.map_test.specs.MapTest.{Formed}
use Rattle.map_mend.specs.Entry.{entry, mended_at, same_entry}
use Rattle.map_mend.specs.Mend.{entry_bytes, listed_size, mended_from, altered_at, altered_from}
use Rattle.map_mend.specs.Outcome.{restored}
use Rattle.map_mend.proofs.Behind.{behind, entries_of, sets_behind, entries_size, same_map, same_start, put_behind, register_in}

three_bytes : (l : List ℕ) (i : ℕ) → i + 3 ≤ length l → take 3 (drop i l) ≡ byte_at l i ∷ byte_at l (i + 1) ∷ byte_at l (i + 2) ∷ []
three_bytes l i h =
    let e1 : i + 1 ≡ suc i = omega arith in
    let e2 : i + 2 ≡ suc (suc i) = omega arith in
    rw (e1, e2, drop-cons l i 0 (omega arith), drop-cons l (suc i) 0 (omega arith), drop-cons l (suc (suc i)) 0 (omega arith))

entries_agree : (x y : Entry) → same_entry x y ≡ true → x ≡ y
entries_agree x y h =
    let kinds = eqb x.kind y.kind in
    let masks = eqb x.mask y.mask in
    let defaults = eqb x.default y.default in
    let both = and_left (kinds && masks) defaults h in
    let k = eqb-true x.kind y.kind (and_left kinds masks both) in
    let l = eqb-true x.mask y.mask (and_right kinds masks both) in
    let d = eqb-true x.default y.default (and_right (kinds && masks) defaults h) in
    λ i. entry (k i) (l i) (d i)

module _ (m : List ℕ) (f : Formed m) where
  -- the map with the entries from a on mended, k of them
  abbrev mended_on_from : ℕ → ℕ → List ℕ
  mended_on_from a k = behind m (take (3 * a) (entries_of m) ++ mended_from m a k)

  one_entry : (a : ℕ) → a < count_of m → take (3 * a) (entries_of m) ++ entry_bytes (register_at m a) ≡ take (3 * (a + 1)) (entries_of m)
  one_entry a h =
      let e : 3 * a + 3 ≡ 3 * (a + 1) = omega arith in
      let inside : 3 * a + 3 ≤ length (entries_of m) = omega (arith, entries_size m f) in
      ap (λ (x : Entry). take (3 * a) (entries_of m) ++ entry_bytes x) (register_in m f a h)
      ∙ ap (λ (l : List ℕ). take (3 * a) (entries_of m) ++ l) (sym (three_bytes (entries_of m) (3 * a) inside))
      ∙ sym (take-add (3 * a) 3 (entries_of m))
      ∙ ap (λ (i : ℕ). take i (entries_of m)) e

  -- with the old entry at a, those from the next one on are mended
  next_map : (a k : ℕ) → a < count_of m
      → behind m (take (3 * a) (entries_of m) ++ (entry_bytes (register_at m a) ++ mended_from m (a + 1) k)) ≡ mended_on_from (a + 1) k
  next_map a k h =
      ap (behind m)
      (sym (append_assoc (take (3 * a) (entries_of m)) (entry_bytes (register_at m a)) (mended_from m (a + 1) k))
      ∙ ap (λ (l : List ℕ). l ++ mended_from m (a + 1) k) (one_entry a h))

  put_back : (a k : ℕ) → a < count_of m
      → sets (mended_on_from a (suc k)) (entry_start (mended_on_from a (suc k)) a) (entry_bytes (register_at m a)) ≡ mended_on_from (a + 1) k
  unfolding mended_from
  put_back a k h =
      let old = entry_bytes (register_at m a) in
      let before = take (3 * a) (entries_of m) in
      let mended = entry_bytes (mended_at a (register_at m a)) ++ mended_from m (a + 1) k in
      let size : length before ≡ 3 * a = length-take-le (3 * a) (entries_of m) (omega (arith, entries_size m f)) in
      let place : 3 * a ≡ length before + 0 = omega arith in
      ap (λ (i : ℕ). sets (mended_on_from a (suc k)) i old) (same_start m f (before ++ mended) a)
      ∙ put_behind m f (before ++ mended) a old
      ∙ ap (λ (i : ℕ). behind m (sets (before ++ mended) i old)) place
      ∙ ap (behind m) (sets_behind before mended 0 old)
      ∙ next_map a k h

  -- one entry more is the old one: it was listed and is put back, or it was not altered
  one_back : (a k : ℕ) (rest : List ℕ) → a < count_of m
      → restored (length (altered_from m a (suc k)) / listed_size) (altered_from m a (suc k) ++ rest) (mended_on_from a (suc k))
      ≡ restored (length (altered_from m (a + 1) k) / listed_size) (altered_from m (a + 1) k ++ rest) (mended_on_from (a + 1) k)
  unfolding restored mended_from altered_from altered_at
  one_back a k rest h =
      let e = register_at m a in
      let more = altered_from m (a + 1) k in
      let n = length more / listed_size in
      let old = mended_on_from a (suc k) in
      each (λ (l : List ℕ). restored (length (l ++ more) / listed_size) ((l ++ more) ++ rest) old ≡ restored n (more ++ rest) (mended_on_from (a + 1) k))
      (same_entry (mended_at a e) e)
      (λ t. ap (λ (x : Entry). restored n (more ++ rest) (behind m (take (3 * a) (entries_of m) ++ (entry_bytes x ++ mended_from m (a + 1) k))))
      (entries_agree (mended_at a e) e t)
      ∙ ap (restored n (more ++ rest)) (next_map a k h))
      (λ t.
      let size : suc (suc (suc (suc (suc (length more))))) / 5 ≡ suc (length more / 5) = omega arith in
      ap (λ (i : ℕ). restored i (word_bytes a ++ (entry_bytes e ++ (more ++ rest))) old) size
      ∙ ap (λ (i : ℕ). restored n (more ++ rest) (sets old (entry_start old i) (entry_bytes e))) (word_back a (entry_bytes e ++ (more ++ rest)))
      ∙ ap (restored n (more ++ rest)) (put_back a k h))

  pub give_back : (k a : ℕ) (rest : List ℕ) → a + k ≡ count_of m
      → restored (length (altered_from m a k) / listed_size) (altered_from m a k ++ rest) (mended_on_from a k) ≡ m
  unfolding restored mended_from altered_from
  give_back zero a rest h =
      let all : length (entries_of m) ≤ 3 * a = omega (arith, entries_size m f) in
      rw (append-nil (take (3 * a) (entries_of m)), take_all (3 * a) (entries_of m) all) (same_map m f)
  give_back (suc k) a rest h = one_back a k rest (omega arith) ∙ give_back k (a + 1) rest (omega arith)
