-- A list that is made of orders is good, and is taken apart into these orders.
use mathlib.Core.Path.{◌≡◌, refl, ap, ◌∙◌}
use mathlib.Core.Bool.{true, false}
use mathlib.Core.List.{List, [], ◌∷◌, ◌++◌}
use Prim.Native.Nat.{ℕ, zero, suc, ◌+◌, ◌-◌, ◌*◌, ◌/◌, ◌%◌, ◌≤◌}
use native.Mathlib.Omega.{arith}
use lib.ListN.{length, take, drop, length-append}
use lib.Seq.{take-append_seam, drop-append_seam}
use lib.Dec.{eqb}
use borrow.Author.Tests.{le-leb, ne_eqb}
use Rattle.base_bits.specs.Bytes.{word_at}
use Rattle.base_bits.specs.Tests.{every}
use Rattle.send_setup.specs.Form.{ListedOrder, listed, listed_bytes, list_bytes, whole_tests, first_listed, after_first, list_good, listed_of}

halves : (n : ℕ) → n / 256 * 256 + n % 256 ≡ n
halves n = omega arith

-- one order, with what comes after it
module _ (x : ListedOrder) (rest : List ℕ) where
  abbrev bytes_on : List ℕ
  bytes_on = listed_bytes x ++ rest

  length_read : word_at bytes_on 0 ≡ 6 + length x.bytes
  unfolding listed_bytes
  length_read = halves (6 + length x.bytes)

  length_bytes_on : length bytes_on ≡ 8 + length x.bytes + length rest
  unfolding listed_bytes
  length_bytes_on = omega (arith, length-append x.bytes rest)

  stands_whole : every (whole_tests bytes_on) ≡ true
  unfolding listed_bytes every
  stands_whole =
      rw (
        le-leb 6 (word_at bytes_on 0) (omega (arith, length_read)),
        le-leb (2 + word_at bytes_on 0) (length bytes_on) (omega (arith, length_read, length_bytes_on)),
      )

  first_back : first_listed bytes_on ≡ x
  unfolding listed_bytes
  first_back =
      let n : word_at bytes_on 0 - 6 ≡ length x.bytes = omega (arith, length_read) in
      let b : take (word_at bytes_on 0 - 6) (x.bytes ++ rest) ≡ x.bytes = ap (λ (k : ℕ). take k (x.bytes ++ rest)) n ∙ take-append_seam x.bytes rest in
      λ i. listed x.direction (halves x.start i) (halves x.count i) (b i)

  rest_back : after_first bytes_on ≡ rest
  unfolding listed_bytes
  rest_back =
      let n : 2 + word_at bytes_on 0 ≡ suc (suc (suc (suc (suc (suc (suc (suc (length x.bytes)))))))) = omega (arith, length_read) in
      ap (λ (k : ℕ). drop k bytes_on) n ∙ drop-append_seam x.bytes rest

  not_empty : eqb (length bytes_on) 0 ≡ false
  not_empty = ne_eqb (length bytes_on) 0 (λ e. omega (arith, length_bytes_on))

pub list_back : (k : ℕ) (xs : List ListedOrder) → length xs ≤ k → (list_good k (list_bytes xs) ≡ true) × (listed_of k (list_bytes xs) ≡ xs)
unfolding list_good listed_of list_bytes
list_back zero [] h = (refl, refl)
list_back (suc k) [] h = (refl, refl)
list_back zero (x ∷ xs) h = absurd (omega arith)
list_back (suc k) (x ∷ xs) h =
    let r = list_back k xs (omega arith) in
    let l = list_bytes xs in (
      rw (not_empty x l, stands_whole x l, rest_back x l) r.0,
      rw (not_empty x l, first_back x l, rest_back x l) (ap (λ (ys : List ListedOrder). x ∷ ys) r.1),
    )
