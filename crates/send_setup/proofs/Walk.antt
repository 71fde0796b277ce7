-- A list walked order by order: to test it, and to do something with each of its orders.
use mathlib.Core.Path.{◌≡◌, refl, ap, sym, ◌∙◌}
use mathlib.Core.Bool.{Bool, true, false, cond, ◌&&◌}
use mathlib.Core.List.{List, [], ◌∷◌, map}
use Prim.Native.Nat.{ℕ, zero, suc, ◌+◌, ◌-◌, ◌≤◌, ◌<◌}
use native.Mathlib.Omega.{arith}
use lib.ListN.{length, drop, length-drop, drop_of_length-le}
use lib.Dec.{eqb}
use borrow.Author.Tests.{ne_eqb, eqb-true, eqb-false}
use Rattle.base_bits.specs.Bytes.{word_at}
use Rattle.base_bits.specs.Tests.{every}
use Rattle.base_bits.proofs.Cases.{and_left, and_right}
use Rattle.send_order.specs.Order.{Order}
use Rattle.send_setup.specs.Form.{whole_tests, first_listed, after_first, order_with, list_good, listed_of}
use Rattle.send_setup.specs.Calls.{most_orders, orders_of}
use Rattle.std.specs.Prelude.{Some, None}
use Rattle.std.proofs.lemmas.Option.{none-some, cond_some}
use Rattle.send_setup.specs.Look.{order_end}
use Rattle.send_setup.proofs.Places.{Stands, stands, after_here}

-- what the place after an order tells, where there is one
pub record Ends (l : List ℕ) (n left end : ℕ) : Type 0 where
  pub some : left ≡ 0 → ⊥
  pub whole : every (whole_tests (drop n l)) ≡ true
  pub place : end ≡ n + 2 + word_at l n

pub ends : (l : List ℕ) (n left end : ℕ) → Some end ≡ order_end l n left → Ends l n left end
ends l n left end e = go (eqb left 0) refl e
  where
    go : (b : Bool) → eqb left 0 ≡ b → Some end ≡ cond b None (cond (every (whole_tests (drop n l))) (Some (n + 2 + word_at l n)) None) → Ends l n left end
    go true f q = absurd (none-some end (sym q))
    go false f q =
        let k = cond_some (every (whole_tests (drop n l))) _ end (sym q) in
        record { some = eqb-false left 0 f; whole = k.0; place = sym k.1 }

-- what is left of the list decides whether it is good
pub record Testing (l : List ℕ) (n left : ℕ) (good : Bool) : Type 0 where
  pub within : n ≤ length l
  pub rest : list_good left (drop n l) ≡ good

module _ {l : List ℕ} {n left : ℕ} {good : Bool} (w : Testing l n left good) where
  some_left : n < length l → eqb (length (drop n l)) 0 ≡ false
  some_left h = ne_eqb (length (drop n l)) 0 (λ e. omega (arith, length-drop n l))

  pub too_many : n < length l → left ≡ 0 → false ≡ good
  unfolding list_good
  too_many h e = sym (some_left h) ∙ rw e at w.rest

  one_more : (left ≡ 0 → ⊥) → n < length l → list_good left (drop n l) ≡ (every (whole_tests (drop n l)) && list_good (left - 1) (after_first (drop n l)))
  unfolding list_good
  one_more z h =
      let e : left ≡ suc (left - 1) = omega arith in
      ap (λ (k : ℕ). list_good k (drop n l)) e ∙ rw (some_left h)

  pub not_whole : (left ≡ 0 → ⊥) → n < length l → every (whole_tests (drop n l)) ≡ false → false ≡ good
  not_whole z h t = sym (one_more z h ∙ rw t) ∙ w.rest

  -- where no order ends, the list is not good
  pub no_end : n < length l → None ≡ order_end l n left → false ≡ good
  no_end h e = go (eqb left 0) (every (whole_tests (drop n l))) refl refl e
    where
      go : (b t : Bool) → eqb left 0 ≡ b → every (whole_tests (drop n l)) ≡ t → None ≡ cond b None (cond t (Some (n + 2 + word_at l n)) None)
          → false ≡ good
      go true t f w q = too_many h (eqb-true left 0 f)
      go false false f w q = not_whole (eqb-false left 0 f) h w
      go false true f w q = absurd (none-some _ q)

  pub tested_on : (left ≡ 0 → ⊥) → n < length l → every (whole_tests (drop n l)) ≡ true → Testing l (n + 2 + word_at l n) (left - 1) good
  tested_on z h t = record { within = (stands l n t).within; rest = sym (one_more z h ∙ rw (t, after_here l n)) ∙ w.rest }

  pub tested_all : length l ≤ n → true ≡ good
  unfolding list_good
  tested_all h = sym (rw (drop_of_length-le l {i = n} h) (none left)) ∙ w.rest
    where
      none : (k : ℕ) → list_good k [] ≡ true
      none zero = refl
      none (suc k) = refl

-- the orders that a list has from a place on, good or not
abbrev pub orders_from : ℕ → List ℕ → ℕ → ℕ → List Order
orders_from settings l n left = map (order_with settings) (listed_of left (drop n l))

-- the order that stands at a place
abbrev pub order_at : ℕ → List ℕ → ℕ → Order
order_at settings l n = order_with settings (first_listed (drop n l))

pub orders_split : (settings : ℕ) (l : List ℕ) (n left : ℕ) → (left ≡ 0 → ⊥) → n < length l
    → orders_from settings l n left ≡ order_at settings l n ∷ orders_from settings l (n + 2 + word_at l n) (left - 1)
unfolding listed_of
orders_split settings l n left z h =
    let e : left ≡ suc (left - 1) = omega arith in
    let some : eqb (length (drop n l)) 0 ≡ false = ne_eqb (length (drop n l)) 0 (λ q. omega (arith, length-drop n l)) in
    ap (orders_from settings l n) e ∙ rw (some, after_here l n)

pub orders_end : (settings : ℕ) (l : List ℕ) (n left : ℕ) → length l ≤ n → orders_from settings l n left ≡ []
unfolding listed_of
orders_end settings l n left h = rw (drop_of_length-le l {i = n} h) (none left)
  where
    none : (k : ℕ) → map (order_with settings) (listed_of k []) ≡ []
    none zero = refl
    none (suc k) = refl

-- the orders that stand from a place on, in a good list
pub record ToGo (settings : ℕ) (l : List ℕ) (n : ℕ) (os : List Order) : Type 0 where
  pub left : ℕ
  pub good : list_good left (drop n l) ≡ true
  pub orders : os ≡ map (order_with settings) (listed_of left (drop n l))

pub all_to_go : (settings : ℕ) (l : List ℕ) → list_good most_orders l ≡ true → ToGo settings l 0 (orders_of settings l)
unfolding orders_of
all_to_go settings l g = record { left = most_orders; good = g; orders = refl }

-- it stands whole there, and the others after it
pub record Next (settings : ℕ) (l : List ℕ) (n : ℕ) (os : List Order) : Type 0 where
  pub whole : every (whole_tests (drop n l)) ≡ true
  pub others : List Order
  pub split : os ≡ order_at settings l n ∷ others
  pub onward : ToGo settings l (n + 2 + word_at l n) others

pub next_order : {settings : ℕ} {l : List ℕ} {n : ℕ} {os : List Order} → ToGo settings l n os → n < length l → Next settings l n os
unfolding list_good listed_of
next_order {settings} {l} {n} {os} t h = go t.left t.good t.orders
  where
    go : (k : ℕ) → list_good k (drop n l) ≡ true → os ≡ map (order_with settings) (listed_of k (drop n l)) → Next settings l n os
    go zero g e = absurd (omega (arith, eqb-true (length (drop n l)) 0 g, length-drop n l))
    go (suc k) g e =
        let some : eqb (length (drop n l)) 0 ≡ false = ne_eqb (length (drop n l)) 0 (λ z. omega (arith, length-drop n l)) in
        let both : (every (whole_tests (drop n l)) && list_good k (after_first (drop n l))) ≡ true = rw some at g in
        record {
          whole = and_left (every (whole_tests (drop n l))) (list_good k (after_first (drop n l))) both;
          others = map (order_with settings) (listed_of k (after_first (drop n l)));
          split = e ∙ rw some;
          onward = record {
            left = k;
            good = rw (after_here l n) at (and_right (every (whole_tests (drop n l))) (list_good k (after_first (drop n l))) both);
            orders = rw (after_here l n);
          };
        }

pub whole_next : {settings : ℕ} {l : List ℕ} {n : ℕ} {os : List Order} → ToGo settings l n os → n < length l → every (whole_tests (drop n l)) ≡ true
whole_next t h = (next_order t h).whole

pub stands_next : {settings : ℕ} {l : List ℕ} {n : ℕ} {os : List Order} → ToGo settings l n os → n < length l → Stands l n
stands_next {l = l} {n = n} t h = stands l n (whole_next t h)

pub none_to_go : {settings : ℕ} {l : List ℕ} {n : ℕ} {os : List Order} → ToGo settings l n os → length l ≤ n → os ≡ []
none_to_go {settings} {l} {n} t h = t.orders ∙ orders_end settings l n t.left h
