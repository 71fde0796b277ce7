-- An order at a place of a list: what its tests say there, and its parts.
use mathlib.Core.Path.{◌≡◌, refl, ap, sym, ◌∙◌}
use mathlib.Core.Bool.{Bool, true, false, ◌&&◌}
use mathlib.Core.List.{List, [], ◌∷◌}
use Prim.Native.Nat.{ℕ, ◌+◌, ◌-◌, ◌≤◌, ◌<◌}
use native.Mathlib.Omega.{arith}
use native.Mathlib.Nat.{add-zero, add_assoc}
use lib.ListN.{length, take, drop, length-drop}
use lib.Seq.{get_or-drop, drop-drop}
use lib.Dec.{eqb, leb}
use borrow.Author.Tests.{leb-true, leb-false, le-leb, lt-leb}
use Rattle.base_bits.specs.Bytes.{byte_at, word_at}
use Rattle.base_bits.specs.Tests.{every}
use Rattle.base_bits.proofs.Cases.{every_true, joined_every}
use Rattle.send_order.specs.Order.{order, with_data}
use Rattle.send_order.specs.declared.Order as declared
use Rattle.send_setup.specs.Form.{whole_tests, first_listed, after_first, order_with}

word_drop : (l : List ℕ) (n i : ℕ) → word_at (drop n l) i ≡ word_at l (n + i)
word_drop l n i = rw (get_or-drop n l i 0, get_or-drop n l (i + 1) 0, ← add_assoc n i 1)

length_here : (l : List ℕ) (n : ℕ) → word_at (drop n l) 0 ≡ word_at l n
length_here l n = word_drop l n 0 ∙ ap (word_at l) (add-zero n)

-- an order stands at a place
pub record Stands (l : List ℕ) (n : ℕ) : Type 0 where
  pub least : 6 ≤ word_at l n
  pub within : n + 2 + word_at l n ≤ length l

pub stands : (l : List ℕ) (n : ℕ) → every (whole_tests (drop n l)) ≡ true → Stands l n
stands l n h =
    let t = every_true (whole_tests (drop n l)) h in
    let e = length_here l n in
    let a = leb-true 6 (word_at (drop n l) 0) t.0 in
    let b = leb-true (2 + word_at (drop n l) 0) (length (drop n l)) t.1.0 in
    record { least = omega arith; within = omega (arith, length-drop n l) }

-- it is within what is left of the list where it ends within the list
ends_within : (l : List ℕ) (n : ℕ) → leb (2 + word_at l n) (length l - n) ≡ leb (n + 2 + word_at l n) (length l)
ends_within l n = go (leb (n + 2 + word_at l n) (length l)) refl
  where
    go : (b : Bool) → leb (n + 2 + word_at l n) (length l) ≡ b → leb (2 + word_at l n) (length l - n) ≡ b
    go true e = let t = leb-true (n + 2 + word_at l n) (length l) e in le-leb (2 + word_at l n) (length l - n) (omega arith)
    go false e = let t = leb-false (n + 2 + word_at l n) (length l) e in lt-leb (2 + word_at l n) (length l - n) (omega arith)

-- its tests, read there
pub tests_here : (l : List ℕ) (n : ℕ)
    → (leb 6 (word_at l n) && leb (n + 2 + word_at l n) (length l) && eqb (byte_at l (n + 2)) 1) ≡ every (whole_tests (drop n l))
unfolding every
tests_here l n =
    rw (length_here l n, length-drop n l, get_or-drop n l 2 0, ends_within l n)
    (joined_every (leb 6 (word_at l n)) (_ ∷ _ ∷ []))

-- fewer than eight bytes hold no order
pub too_short : (l : List ℕ) (n : ℕ) → length l - n < 8 → false ≡ every (whole_tests (drop n l))
unfolding every
too_short l n h = rw (length_here l n, length-drop n l) (go (leb 6 (word_at l n)) refl)
  where
    go : (b : Bool) → leb 6 (word_at l n) ≡ b → false ≡ (b && (leb (2 + word_at l n) (length l - n) && (eqb (byte_at (drop n l) 2) 1 && true)))
    go true e = let t = leb-true 6 (word_at l n) e in rw (lt-leb (2 + word_at l n) (length l - n) (omega arith))
    go false e = refl

-- the parts of the order there, but for its data
pub count_here : (l : List ℕ) (n : ℕ) → word_at l (n + 6) ≡ (first_listed (drop n l)).count
count_here l n = sym (word_drop l n 6)

pub order_here : (settings : ℕ) (l : List ℕ) (n : ℕ)
    → let x = first_listed (drop n l) in
    order (byte_at l (n + 3)) settings (word_at l (n + 4)) x.count x.bytes ≡ order_with settings x
order_here settings l n = rw (word_drop l n 4, get_or-drop n l 3 0)

-- and with its data, which ends where the order does
pub data_here : (o : declared.Order) (settings : ℕ) (l : List ℕ) (n end : ℕ) → end ≡ n + 2 + word_at l n
    → with_data o (first_listed (drop n l)).bytes ≡ order_with settings (first_listed (drop n l))
    → with_data o (take (end - (n + 8)) (drop (n + 8) l)) ≡ order_with settings (first_listed (drop n l))
data_here o settings l n end e h =
    let k : end - (n + 8) ≡ word_at (drop n l) 0 - 6 = omega (arith, length_here l n) in
    let bytes : take (end - (n + 8)) (drop (n + 8) l) ≡ (first_listed (drop n l)).bytes = rw (k, drop-drop 8 n l) in
    ap (with_data o) bytes ∙ h

-- what comes after it
pub after_here : (l : List ℕ) (n : ℕ) → after_first (drop n l) ≡ drop (n + 2 + word_at l n) l
after_here l n =
    let e : n + (2 + word_at l n) ≡ n + 2 + word_at l n = omega arith in
    rw (length_here l n) (drop-drop (2 + word_at l n) n l ∙ ap (λ (k : ℕ). drop k l) e)
