-- A map that is the head of another with entries behind it: its head is as it was, and its registers are those entries.
use mathlib.Core.Path.{◌≡◌, refl, ap, sym, ◌∙◌}
use mathlib.Core.List.{List, [], ◌∷◌, ◌++◌}
use Prim.Native.Nat.{ℕ, suc, ◌+◌, ◌*◌, ◌<◌}
use native.Mathlib.Omega.{arith}
use native.Mathlib.Nat.{zero-add, suc-add}
use lib.ListN.{length, set, take, drop, length-drop, get_or-append, take-append-drop}
use lib.Seq.{sets, length-take-le, get_or-append-add, get_or-take}
use Rattle.base_bits.specs.Bytes.{byte_at}
use Rattle.map_format.specs.declared.Entry.{Entry}
use Rattle.map_format.specs.Format.{version_of, count_of, head_of, entry_start, entry_at, register_at}
use Rattle.map_format.proofs.Laws.{head_bounds, entry_bytes_lem}
use Rattle.map_test.specs.MapTest.{Formed}
use Rattle.map_mend.specs.Entry.{entry}

abbrev pub behind : List ℕ → List ℕ → List ℕ
behind m entries = take (head_of m) m ++ entries

-- the bytes of all entries
abbrev pub entries_of : List ℕ → List ℕ
entries_of m = drop (head_of m) m

-- the entry at an address, by the bytes of all entries
abbrev pub entry_in : List ℕ → ℕ → Entry
entry_in entries a = entry (byte_at entries (3 * a)) (byte_at entries (3 * a + 1)) (byte_at entries (3 * a + 2))

-- bytes stored behind a first part
set_behind : (p l : List ℕ) (i x : ℕ) → set (p ++ l) (length p + i) x ≡ p ++ set l i x
set_behind [] l i x = rw zero-add
set_behind (y ∷ p) l i x = rw (suc-add (length p) i) (ap (λ (t : List ℕ). y ∷ t) (set_behind p l i x))

pub sets_behind : (p l : List ℕ) (i : ℕ) (xs : List ℕ) → sets (p ++ l) (length p + i) xs ≡ p ++ sets l i xs
sets_behind p l i [] = refl
sets_behind p l i (x ∷ xs) =
    let s : suc (length p + i) ≡ length p + suc i = omega arith in
    rw (set_behind p l i x, s) (sets_behind p (set l i x) (suc i) xs)

module _ (m : List ℕ) (f : Formed m) where
  pub head_size_lem : length (take (head_of m) m) ≡ head_of m
  head_size_lem = length-take-le (head_of m) m (omega (arith, f.whole))

  pub entries_size : length (entries_of m) ≡ 3 * count_of m
  entries_size = omega (arith, length-drop (head_of m) m, f.whole)

  pub same_map : behind m (entries_of m) ≡ m
  same_map = take-append-drop (head_of m) m

  module _ (entries : List ℕ) where
    pub head_byte : (i : ℕ) → i < head_of m → byte_at (behind m entries) i ≡ byte_at m i
    head_byte i h = get_or-append (take (head_of m) m) entries 0 i (omega (arith, head_size_lem)) ∙ get_or-take (head_of m) m i 0 h

    pub same_version : version_of (behind m entries) ≡ version_of m
    same_version = head_byte 2 (omega (arith, head_bounds m))

    pub same_count : count_of (behind m entries) ≡ count_of m
    unfolding count_of
    same_count = rw (head_byte 3 (omega (arith, head_bounds m)), head_byte 4 (omega (arith, head_bounds m)))

    pub same_head : head_of (behind m entries) ≡ head_of m
    unfolding head_of
    same_head = rw same_version

    pub same_start : (a : ℕ) → entry_start (behind m entries) a ≡ entry_start m a
    same_start a = rw same_head

    pub entries_byte : (i : ℕ) → byte_at (behind m entries) (head_of m + i) ≡ byte_at entries i
    entries_byte i =
        ap (λ (k : ℕ). byte_at (behind m entries) (k + i)) (sym head_size_lem) ∙ get_or-append-add (take (head_of m) m) entries i 0

    -- a register of it
    pub entry_behind : (n a : ℕ) → a < n → entry_at (behind m entries) n a ≡ entry_in entries a
    entry_behind n a h =
        let e1 : head_of m + 3 * a + 1 ≡ head_of m + (3 * a + 1) = omega arith in
        let e2 : head_of m + 3 * a + 2 ≡ head_of m + (3 * a + 2) = omega arith in
        sym (entry_bytes_lem (behind m entries) n a h)
        ∙ rw (same_head, e1, e2, entries_byte (3 * a), entries_byte (3 * a + 1), entries_byte (3 * a + 2))

    -- bytes put at an entry
    pub put_behind : (a : ℕ) (xs : List ℕ) → sets (behind m entries) (entry_start m a) xs ≡ behind m (sets entries (3 * a) xs)
    put_behind a xs =
        ap (λ (k : ℕ). sets (behind m entries) (k + 3 * a) xs) (sym head_size_lem) ∙ sets_behind (take (head_of m) m) entries (3 * a) xs

  -- a register of the map itself
  pub register_in : (a : ℕ) → a < count_of m → register_at m a ≡ entry_in (entries_of m) a
  register_in a h = ap (λ (l : List ℕ). entry_at l (count_of m) a) (sym same_map) ∙ entry_behind (entries_of m) (count_of m) a h
