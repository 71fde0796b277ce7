-- What the converter makes: a map is its head and its entries, and of a good map without flags the head follows from its version and n.
use mathlib.Core.Path.{◌≡◌, refl, ap, sym, ◌∙◌, subst}
use mathlib.Core.Bool.{true, cond, ◌||◌, false≢true}
use mathlib.Core.List.{List, [], ◌∷◌, ◌++◌}
use Prim.Native.Nat.{ℕ, zero, suc, ◌+◌, ◌*◌, ◌/◌, ◌%◌, ◌≤◌, ◌<◌}
use native.Mathlib.Omega.{arith}
use lib.ListN.{length, get_or, drop, length-drop}
use lib.Seq.{drop-cons}
use lib.Dec.{eqb, ltb}
use lib.Pow.{are_bytes}
use borrow.Author.Tests.{ltb-true, eqb-true, eq-eqb, ne_eqb, le-leb}
use Rattle.base_bits.specs.Bytes.{byte_at}
use Rattle.base_bits.specs.Tests.{every}
use Rattle.base_bits.proofs.Cases.{and_left, and_right}
use Rattle.base_chip.specs.declared.Chip.TheVariants.{Newer}
use Rattle.map_format.specs.declared.Entry.{Entry}
use Rattle.map_format.specs.Format.{length_of, version_of, count_of, head_of, flags_of, entry_at, register_at, SameRegisters}
use Rattle.map_test.specs.MapTest.{form_tests, map_number}
use Rattle.map_test.proofs.Laws.{good_form, good_length, good_version, good_count, good_alike}
use Rattle.map_convert.specs.Convert.{head_bytes, converted_to}
use Rattle.map_convert.specs.Made.{Wished, to_1, to_2, IsConverted, ConvertedMaps, BackAgain}
use Rattle.map_convert.proofs.Laws.{convert_tests}

-- a map of n registers with these entries and no flag
abbrev pub map_in : ℕ → ℕ → List ℕ → List ℕ
map_in version n entries = head_bytes version n ++ entries

two_halves : (n : ℕ) → n / 256 * 256 + n % 256 ≡ n
two_halves n = omega arith

-- ---- a good map without flags is such a map

-- the first bytes of a list
five : (m : List ℕ) → 5 ≤ length m → byte_at m 0 ∷ byte_at m 1 ∷ byte_at m 2 ∷ byte_at m 3 ∷ byte_at m 4 ∷ drop 5 m ≡ m
five [] h = absurd (omega arith)
five (a ∷ []) h = absurd (omega arith)
five (a ∷ b ∷ []) h = absurd (omega arith)
five (a ∷ b ∷ c ∷ []) h = absurd (omega arith)
five (a ∷ b ∷ c ∷ d ∷ []) h = absurd (omega arith)
five (a ∷ b ∷ c ∷ d ∷ e ∷ l) h = refl

byte_then_rest : (m : List ℕ) (i : ℕ) → i < length m → byte_at m i ∷ drop (suc i) m ≡ drop i m
byte_then_rest m i h = sym (drop-cons m i 0 h)

byte_lt : (m : List ℕ) (i : ℕ) → are_bytes m ≡ true → byte_at m i < 256
byte_lt [] i h = omega arith
byte_lt (x ∷ m) zero h = ltb-true x 256 (and_left (ltb x 256) (are_bytes m) h)
byte_lt (x ∷ m) (suc i) h = byte_lt m i (and_right (ltb x 256) (are_bytes m) h)

module _ (m : List ℕ) (good : map_number Newer m ≡ 0) (bytes : are_bytes m ≡ true) where
  count_bytes : (byte_at m 3 ≡ count_of m / 256) × (byte_at m 4 ≡ count_of m % 256)
  unfolding count_of
  count_bytes = (omega (arith, byte_lt m 3 bytes, byte_lt m 4 bytes), omega (arith, byte_lt m 3 bytes, byte_lt m 4 bytes))

  -- the two bytes of the length, where it is k
  length_bytes : (k : ℕ) → length_of m ≡ k → (byte_at m 0 ≡ k / 256) × (byte_at m 1 ≡ k % 256)
  length_bytes k e = (omega (arith, byte_lt m 0 bytes, byte_lt m 1 bytes), omega (arith, byte_lt m 0 bytes, byte_lt m 1 bytes))

  is_map : (version : ℕ) → Wished version → version_of m ≡ version → flags_of m ≡ 0 → map_in version (count_of m) (drop (head_of m) m) ≡ m
  unfolding head_bytes head_of
  is_map _ to_1 v f =
      let h : head_of m ≡ 5 = rw v in
      let l = length_bytes (3 + 3 * count_of m) (omega (arith, good_length Newer m good)) in
      rw v
      ((λ i. sym l.0 i ∷ sym l.1 i ∷ sym v i ∷ sym count_bytes.0 i ∷ sym count_bytes.1 i ∷ drop 5 m)
      ∙ five m (omega (arith, good_form Newer m good)))
  is_map _ to_2 v f =
      let h : head_of m ≡ 6 = rw v in
      let b : byte_at m 5 ≡ 0 = rw v at f in
      let l = length_bytes (4 + 3 * count_of m) (omega (arith, good_length Newer m good)) in
      let d : 0 ∷ drop 6 m ≡ drop 5 m = ap (λ (x : ℕ). x ∷ drop 6 m) (sym b) ∙ byte_then_rest m 5 (omega (arith, good_form Newer m good)) in
      rw v
      ((λ i. sym l.0 i ∷ sym l.1 i ∷ sym v i ∷ sym count_bytes.0 i ∷ sym count_bytes.1 i ∷ d i)
      ∙ five m (omega (arith, good_form Newer m good)))

-- ---- on such a map conversion computes

to_other : (version wished : ℕ) → Wished version → Wished wished → (n : ℕ) (entries : List ℕ)
    → converted_to wished (map_in version n entries) ≡ map_in wished n entries
unfolding converted_to head_bytes count_of head_of
to_other _ _ to_1 to_1 n entries = refl
to_other _ _ to_1 to_2 n entries = rw (two_halves n)
to_other _ _ to_2 to_1 n entries = rw (two_halves n)
to_other _ _ to_2 to_2 n entries = refl

pub back_again : BackAgain
back_again version wished a b m bytes good v f =
    let e = is_map m good bytes version a v f in
    ap (λ (x : List ℕ). converted_to version (converted_to wished x)) (sym e)
    ∙ ap (converted_to version) (to_other version wished a b (count_of m) (drop (head_of m) m))
    ∙ to_other wished version b a (count_of m) (drop (head_of m) m)
    ∙ e

-- ---- such a map is good in either version

-- the entry at an address, by the bytes of all entries
abbrev entry_in : ℕ → List ℕ → ℕ → Entry
entry_in n entries a =
    cond (ltb a n)
    (record { kind = byte_at entries (3 * a); mask = byte_at entries (3 * a + 1); default = byte_at entries (3 * a + 2) })
    (record { kind = 0; mask = 0; default = 0 })

past_5 : (a b c d e j : ℕ) (l : List ℕ) → get_or (a ∷ b ∷ c ∷ d ∷ e ∷ l) (5 + j) 0 ≡ get_or l j 0
past_5 a b c d e j l = let s : 5 + j ≡ suc (suc (suc (suc (suc j)))) = omega arith in rw s

past_6 : (a b c d e f j : ℕ) (l : List ℕ) → get_or (a ∷ b ∷ c ∷ d ∷ e ∷ f ∷ l) (6 + j) 0 ≡ get_or l j 0
past_6 a b c d e f j l = let s : 6 + j ≡ suc (suc (suc (suc (suc (suc j))))) = omega arith in rw s

register_in : (version : ℕ) → Wished version → (n : ℕ) (entries : List ℕ) (a : ℕ) → register_at (map_in version n entries) a ≡ entry_in n entries a
unfolding head_bytes count_of entry_at head_of
register_in _ to_1 n entries a =
    let q1 : 5 + 3 * a + 1 ≡ 5 + (3 * a + 1) = omega arith in
    let q2 : 5 + 3 * a + 2 ≡ 5 + (3 * a + 2) = omega arith in
    rw (
      q1,
      q2,
      past_5 _ _ _ _ _ (3 * a) entries,
      past_5 _ _ _ _ _ (3 * a + 1) entries,
      past_5 _ _ _ _ _ (3 * a + 2) entries,
      two_halves n,
    )
register_in _ to_2 n entries a =
    let q1 : 6 + 3 * a + 1 ≡ 6 + (3 * a + 1) = omega arith in
    let q2 : 6 + 3 * a + 2 ≡ 6 + (3 * a + 2) = omega arith in
    rw (
      q1,
      q2,
      past_6 _ _ _ _ _ _ (3 * a) entries,
      past_6 _ _ _ _ _ _ (3 * a + 1) entries,
      past_6 _ _ _ _ _ _ (3 * a + 2) entries,
      two_halves n,
    )

count_in : (version : ℕ) → Wished version → (n : ℕ) (entries : List ℕ) → count_of (map_in version n entries) ≡ n
unfolding head_bytes count_of
count_in _ to_1 n entries = two_halves n
count_in _ to_2 n entries = two_halves n

same_in : (version wished : ℕ) → Wished version → Wished wished → (n : ℕ) (entries : List ℕ) → SameRegisters (map_in version n entries) (map_in wished n entries)
same_in version wished a b n entries = record {
  same_count = count_in version a n entries ∙ sym (count_in wished b n entries);
  entries_agree = λ i. register_in version a n entries i ∙ sym (register_in wished b n entries i);
}

form_in : (version : ℕ) → Wished version → (n : ℕ) (entries : List ℕ) → 16 ≤ n → n ≤ 8192 → length entries ≡ 3 * n
    → every (form_tests (map_in version n entries)) ≡ true
unfolding every head_bytes count_of head_of
form_in _ to_1 n entries least most whole =
    let l : 2 + ((3 + 3 * n) / 256 * 256 + (3 + 3 * n) % 256) ≡ 5 + 3 * n = omega arith in
    let s : suc (suc (suc (suc (suc (length entries))))) ≡ 5 + 3 * n = omega (arith, whole) in
    rw (two_halves n, le-leb 5 (suc (suc (suc (suc (suc (length entries)))))) (omega arith), le-leb 16 n least, le-leb n 8192 most, eq-eqb _ _ l, eq-eqb _ _ s)
form_in _ to_2 n entries least most whole =
    let l : 2 + ((4 + 3 * n) / 256 * 256 + (4 + 3 * n) % 256) ≡ 6 + 3 * n = omega arith in
    let s : suc (suc (suc (suc (suc (suc (length entries)))))) ≡ 6 + 3 * n = omega (arith, whole) in
    rw (
      two_halves n,
      le-leb 5 (suc (suc (suc (suc (suc (suc (length entries)))))))
          (omega arith),
      le-leb 16 n least,
      le-leb n 8192 most,
      eq-eqb _ _ l,
      eq-eqb _ _ s,
    )

-- ---- what a call makes

copied : (wished : ℕ) (m : List ℕ) → map_number Newer m ≡ 0 → version_of m ≡ wished → IsConverted wished m (converted_to wished m)
unfolding converted_to
copied wished m good v =
    rw (eq-eqb (version_of m) wished v)
    (record { good = good; wished = v; same_registers = record { same_count = refl; entries_agree = λ a. refl }; same_flags = refl })

made_in :
    (version wished : ℕ) → Wished version → Wished wished → (n : ℕ) (entries : List ℕ) → 16 ≤ n → n ≤ 8192 → length entries ≡ 3 * n
    → map_number Newer (map_in version n entries) ≡ 0 → IsConverted wished (map_in version n entries) (map_in wished n entries)
unfolding head_bytes
made_in version wished a b n entries least most whole good = record {
  good =
      good_alike Newer (map_in version n entries) (map_in wished n entries) (same_in version wished a b n entries) good
      (form_in wished b n entries least most whole);
  wished = version_in wished b;
  same_registers = same_in version wished a b n entries;
  same_flags = flags_in wished b ∙ sym (flags_in version a);
}
  where
    version_in : (v : ℕ) → Wished v → version_of (map_in v n entries) ≡ v
    version_in _ to_1 = refl
    version_in _ to_2 = refl

    flags_in : (v : ℕ) → Wished v → flags_of (map_in v n entries) ≡ 0
    flags_in _ to_1 = refl
    flags_in _ to_2 = refl

remade :
    (version wished : ℕ) → Wished version → Wished wished → (m : List ℕ) → are_bytes m ≡ true → map_number Newer m ≡ 0
    → version_of m ≡ version → flags_of m ≡ 0 → IsConverted wished m (converted_to wished m)
remade version wished a b m bytes good v f =
    let n = count_of m in
    let entries = drop (head_of m) m in
    let e = is_map m good bytes version a v f in
    let c : map_in wished n entries ≡ converted_to wished m = sym (to_other version wished a b n entries) ∙ ap (converted_to wished) e in
    let whole : length entries ≡ 3 * n = omega (arith, length-drop (head_of m) m, good_form Newer m good) in
    let made = made_in version wished a b n entries (good_count Newer m good).0 (good_count Newer m good).1 whole
    (subst (λ (x : List ℕ). map_number Newer x ≡ 0) (sym e) good) in
    subst (λ (x : List ℕ). IsConverted wished x (converted_to wished m)) e (subst (IsConverted wished (map_in version n entries)) c made)

-- a good map is of one of the versions
version_of_lem : (m : List ℕ) → map_number Newer m ≡ 0 → Wished (version_of m)
version_of_lem m good = go (version_of m) (good_version Newer m good)
  where
    go : (v : ℕ) → (eqb v 1 || eqb v 2) ≡ true → Wished v
    go zero h = absurd (false≢true h)
    go (suc zero) h = to_1
    go (suc (suc zero)) h = to_2
    go (suc (suc (suc v))) h =
        absurd (false≢true (rw (ne_eqb (suc (suc (suc v))) 1 (λ e. omega arith), ne_eqb (suc (suc (suc v))) 2 (λ e. omega arith)) at h))

pub converted_maps : ConvertedMaps
converted_maps wished b m room bytes z =
    let t = convert_tests wished m room z in
    go (version_of m) refl (version_of_lem m t.good) wished b t.unflagged
  where
    good : map_number Newer m ≡ 0
    good = (convert_tests wished m room z).good

    go :
        (v : ℕ) → version_of m ≡ v → Wished v → (w : ℕ) → Wished w → (eqb w 2 || eqb (flags_of m) 0) ≡ true → IsConverted w m (converted_to w m)
    go _ v to_1 _ to_1 u = copied 1 m good v
    go _ v to_1 _ to_2 u = remade 1 2 to_1 to_2 m bytes good v (rw v)
    go _ v to_2 _ to_1 u = remade 2 1 to_2 to_1 m bytes good v (eqb-true (flags_of m) 0 u)
    go _ v to_2 _ to_2 u = copied 2 m good v
