-- The pass in place: the entries before an address are mended, the others are as they were.
use mathlib.Core.Path.{◌≡◌, refl, ap, sym, ◌∙◌}
use mathlib.Core.List.{List, ◌++◌, append_assoc, append-nil}
use Prim.Native.Nat.{ℕ, zero, suc, ◌+◌, ◌*◌, ◌≤◌, ◌<◌}
use native.Mathlib.Omega.{arith}
use native.Mathlib.Nat.{add-zero, zero-add}
use lib.ListN.{length, take, drop, length-append, length-drop, drop_of_length-le}
use lib.Seq.{sets, drop-drop, get_or-append-add, get_or-drop}
use Rattle.base_bits.specs.Bytes.{byte_at}
use Rattle.base_bits.proofs.Buffer.{sets_filled}
use Rattle.map_format.specs.Format.{count_of, head_of, entry_start, entry_at, register_at}
use Rattle.map_test.specs.MapTest.{Formed}
use Rattle.map_mend.specs.Entry.{entry, mended_at}
use Rattle.map_mend.specs.Mend.{entry_bytes, mended_from, mended_map}
use Rattle.map_mend.proofs.Behind.{behind, entries_of, sets_behind, head_size_lem, entries_size, same_map, same_start, entry_behind, put_behind, register_in}

pub length_mended : (m : List ℕ) (a k : ℕ) → length (mended_from m a k) ≡ 3 * k
unfolding mended_from
length_mended m a zero = refl
length_mended m a (suc k) = omega (arith, length_mended m (a + 1) k)

one_more : (m : List ℕ) (b k : ℕ) → mended_from m b (suc k) ≡ mended_from m b k ++ entry_bytes (mended_at (b + k) (register_at m (b + k)))
unfolding mended_from
one_more m b zero = rw (add-zero b)
one_more m b (suc k) =
    let e : b + 1 + k ≡ b + suc k = omega arith in
    ap (λ (l : List ℕ). entry_bytes (mended_at b (register_at m b)) ++ l) (rw e at (one_more m (b + 1) k))

-- the entries, of which those before a are mended
abbrev partly : List ℕ → ℕ → List ℕ
partly m a = mended_from m 0 a ++ drop (3 * a) (entries_of m)

pub record Passing (m map : List ℕ) (a : ℕ) : Type 0 where
  pub so_far : map ≡ behind m (partly m a)

module _ (m : List ℕ) (f : Formed m) where
  pub passing_begun : Passing m m 0
  unfolding mended_from
  passing_begun = record { so_far = sym (same_map m f) }

  -- the bytes from entry a on
  later_byte : (a j : ℕ) → byte_at (partly m a) (3 * a + j) ≡ byte_at (entries_of m) (3 * a + j)
  later_byte a j =
      ap (λ (k : ℕ). byte_at (partly m a) (k + j)) (sym (length_mended m 0 a))
      ∙ get_or-append-add (mended_from m 0 a) (drop (3 * a) (entries_of m)) j 0
      ∙ get_or-drop (3 * a) (entries_of m) j 0

  first_byte : (a : ℕ) → byte_at (partly m a) (3 * a) ≡ byte_at (entries_of m) (3 * a)
  first_byte a = rw (add-zero (3 * a)) at (later_byte a 0)

  -- with the next entry put in its place
  one_mended : (a : ℕ) → a < count_of m → sets (partly m a) (3 * a) (entry_bytes (mended_at a (register_at m a))) ≡ partly m (a + 1)
  one_mended a h =
      let bytes = entry_bytes (mended_at a (register_at m a)) in
      let rest = drop (3 * a) (entries_of m) in
      let place : 3 * a ≡ length (mended_from m 0 a) + 0 = omega (arith, length_mended m 0 a) in
      let room : 3 ≤ length rest = omega (arith, length-drop (3 * a) (entries_of m), entries_size m f) in
      let after : 3 * a + 3 ≡ 3 * (a + 1) = omega arith in
      let s : a + 1 ≡ suc a = omega arith in
      ap (λ (k : ℕ). sets (partly m a) k bytes) place
      ∙ sets_behind (mended_from m 0 a) rest 0 bytes
      ∙ ap (λ (l : List ℕ). mended_from m 0 a ++ l)
      (sets_filled bytes rest room ∙ ap (λ (l : List ℕ). bytes ++ l) (drop-drop 3 (3 * a) (entries_of m) ∙ ap (λ (k : ℕ). drop k (entries_of m)) after))
      ∙ sym (append_assoc (mended_from m 0 a) bytes (drop (3 * (a + 1)) (entries_of m)))
      ∙ ap (λ (l : List ℕ). l ++ drop (3 * (a + 1)) (entries_of m))
      (sym (ap (mended_from m 0) s ∙ one_more m 0 a ∙ ap (λ (k : ℕ). mended_from m 0 a ++ entry_bytes (mended_at k (register_at m k))) (zero-add a)))

  module _ (map : List ℕ) (a : ℕ) (p : Passing m map a) where
    pub start_same : (k : ℕ) → entry_start map k ≡ entry_start m k
    start_same k = ap (λ (l : List ℕ). entry_start l k) p.so_far ∙ same_start m f (partly m a) k

    pub size_same : a ≤ count_of m → length map ≡ length m
    size_same h =
        omega (
          arith,
          ap length p.so_far,
          length-append (take (head_of m) m) (partly m a),
          head_size_lem m f,
          length-append (mended_from m 0 a) (drop (3 * a) (entries_of m)),
          length_mended m 0 a,
          length-drop (3 * a) (entries_of m),
          entries_size m f,
          f.whole,
        )

    -- the entry at a is still the old one
    pub entry_same : a < count_of m → entry_at map (count_of m) a ≡ register_at m a
    entry_same h =
        ap (λ (l : List ℕ). entry_at l (count_of m) a) p.so_far
        ∙ entry_behind m f (partly m a) (count_of m) a h
        ∙ (λ i. entry (first_byte a i) (later_byte a 1 i) (later_byte a 2 i))
        ∙ sym (register_in m f a h)

    -- mended in its place, it is one more
    pub again : a < count_of m → Passing m (sets map (entry_start map a) (entry_bytes (mended_at a (register_at m a)))) (a + 1)
    again h =
        let bytes = entry_bytes (mended_at a (register_at m a)) in
        record {
          so_far =
              ap (λ (k : ℕ). sets map k bytes) (start_same a)
              ∙ ap (λ (l : List ℕ). sets l (entry_start m a) bytes) p.so_far
              ∙ put_behind m f (partly m a) a bytes
              ∙ ap (behind m) (one_mended a h);
        }

    pub ended : a ≡ count_of m → map ≡ mended_map m
    unfolding mended_map
    ended e =
        let all : length (entries_of m) ≤ 3 * a = omega (arith, entries_size m f) in
        p.so_far ∙ rw (drop_of_length-le (entries_of m) {i = 3 * a} all, append-nil (mended_from m 0 a), e)
