-- The walks over the orders of a list: what is done, with what is still to go, is the whole.
use mathlib.Core.Path.{◌≡◌, refl, ap, sym, ◌∙◌}
use mathlib.Core.Bool.{Bool, true, false, cond}
use mathlib.Core.List.{List, ◌∷◌}
use Prim.Native.Nat.{ℕ, ◌+◌, ◌-◌, ◌*◌, ◌≤◌, ◌<◌}
use native.Mathlib.Omega.{arith}
use native.Mathlib.Nat.{suc-ne-zero}
use lib.ListN.{length, drop, length-drop, length-append}
use Rattle.base_bits.specs.Bits.{bit_at}
use Rattle.base_bits.specs.Buffer.{Put}
use Rattle.base_bits.specs.Bytes.{word_at}
use Rattle.base_bits.specs.Tests.{unless}
use Rattle.base_bits.proofs.Cases.{no}
use Rattle.base_bits.proofs.Putting.{Putting, putting_begun, Splits, next_fits, further, ended}
use Rattle.base_chip.specs.declared.Chip.TheVariants.{Newer}
use Rattle.send_order.specs.Order.{Order}
use Rattle.send_order.specs.Samples.{samples_of, all_samples}
use Rattle.send_order.specs.Number.{send_number}
use Rattle.send_order.proofs.Laws.{admitted, length_counted, room_enough}
use Rattle.std.specs.Prelude.{None}
use Rattle.send_setup.specs.Form.{first_listed, list_good}
use Rattle.send_setup.specs.Look.{order_end, LookAfter}
use Rattle.send_setup.specs.Calls.{most_orders, orders_of, own_number, first_bad, setup_number}
use Rattle.send_setup.proofs.Walk.{Ends, Testing, no_end, tested_on, tested_all, ToGo, all_to_go, orders_from, order_at, orders_split, orders_end, Next, next_order, none_to_go}
use Rattle.send_setup.proofs.Numbers.{first_bad_lem, first_good, none_bad, passed}

-- ---- a look over the list: what is found, with what is left, is the whole

-- how many samples so many orders take, of so many bytes in all
abbrev pub samples_in : ℕ → ℕ → ℕ → ℕ
samples_in settings orders bytes = cond (bit_at settings 2) (3 * orders + 48 * bytes) (35 * orders + 16 * bytes)

-- one order more
one_more : (settings orders bytes k : ℕ)
    → samples_in settings orders bytes + cond (bit_at settings 2) (3 + 48 * k) (35 + 16 * k) ≡ samples_in settings (orders + 1) (bytes + k)
one_more settings orders bytes k = go (bit_at settings 2)
  where
    go : (b : Bool)
        → cond b (3 * orders + 48 * bytes) (35 * orders + 16 * bytes) + cond b (3 + 48 * k) (35 + 16 * k)
        ≡ cond b (3 * (orders + 1) + 48 * (bytes + k)) (35 * (orders + 1) + 16 * (bytes + k))
    go true = omega arith
    go false = omega arith

no_samples : (settings : ℕ) → samples_in settings 0 0 ≡ 0
no_samples settings = go (bit_at settings 2)
  where
    go : (b : Bool) → cond b (3 * 0 + 48 * 0) (35 * 0 + 16 * 0) ≡ 0
    go true = refl
    go false = refl

pub record Looking (settings : ℕ) (l : List ℕ) (n left bytes : ℕ) : Type 0 where
  pub form : Testing l n left (list_good most_orders l)
  pub first : first_bad (orders_from settings l n left) ≡ first_bad (orders_of settings l)
  pub sum : samples_in settings (64 - left) bytes + length (all_samples Newer (orders_from settings l n left)) ≡ length (all_samples Newer (orders_of settings l))
  pub few : left ≤ 64
  pub most : bytes + 1000 * left ≤ 64000

pub look_from : (settings : ℕ) (l : List ℕ) → Looking settings l 0 most_orders 0
unfolding orders_of
look_from settings l = record {
  form = record { within = omega arith; rest = refl };
  first = refl;
  sum = omega (arith, no_samples settings);
  few = omega arith;
  most = omega arith;
}

module _ {settings : ℕ} {l : List ℕ} {n left bytes : ℕ} (s : Looking settings l n left bytes) where
  module _ (h : n < length l) where
    -- no order stands whole there, or none may
    pub looked_14 : (more : ℕ) → None ≡ order_end l n left → LookAfter settings l 14 more
    looked_14 more e = record { first = no _ (sym (no_end s.form h e)) refl; all = λ k. absurd (suc-ne-zero 13 k) }

    module _ {end : ℕ} (f : Ends l n left end) where
      split : orders_from settings l n left ≡ order_at settings l n ∷ orders_from settings l (n + 2 + word_at l n) (left - 1)
      split = orders_split settings l n left f.some h

      module _ (own : own_number (order_at settings l n) ≡ 0) (k : ℕ) (t : k ≡ (first_listed (drop n l)).count) where
        pub count_few : k ≤ 1000
        count_few = omega (arith, t, (admitted Newer _ _ own).count.most)

        pub look_on : Looking settings l end (left - 1) (bytes + k)
        unfolding all_samples
        look_on =
            let more = orders_from settings l (n + 2 + word_at l n) (left - 1) in
            let both : length (all_samples Newer (orders_from settings l n left))
            ≡ length (samples_of Newer (order_at settings l n)) + length (all_samples Newer more) =
            ap (λ (os : List Order). length (all_samples Newer os)) split ∙ length-append (samples_of Newer (order_at settings l n)) (all_samples Newer more) in
            let orders : 64 - left + 1 ≡ 64 - (left - 1) = omega (arith, s.few, f.some) in
            let taken : samples_in settings (64 - left) bytes + length (samples_of Newer (order_at settings l n))
            ≡ samples_in settings (64 - (left - 1)) (bytes + k) =
            rw (length_counted Newer (order_at settings l n) (admitted Newer _ _ own).count, ← t, ← orders) (one_more settings (64 - left) bytes k) in
            rw f.place (record {
              form = tested_on s.form f.some h f.whole;
              first = sym (ap first_bad split ∙ first_good (order_at settings l n) more own) ∙ s.first;
              sum = omega (arith, taken, both, s.sum);
              few = omega (arith, s.few);
              most = omega (arith, count_few, s.most, f.some);
            })

      -- a bad order: the first, where what is left is good
      pub looked_bad : (bad number more : ℕ) → bad ≡ own_number (order_at settings l n) → (bad ≡ 0 → ⊥)
          → number ≡ unless (list_good left (drop n l)) 14 bad
          → LookAfter settings l number more
      looked_bad bad number more e z q = go (list_good left (drop n l)) refl q
        where
          worst : own_number (order_at settings l n) ≡ first_bad (orders_of settings l)
          worst =
              let more = orders_from settings l (n + 2 + word_at l n) (left - 1) in
              first_bad_lem (order_at settings l n) more (λ k. z (e ∙ k)) ∙ ap first_bad (sym split) ∙ s.first

          go : (b : Bool) → list_good left (drop n l) ≡ b → number ≡ unless b 14 bad → LookAfter settings l number more
          go true g r = record { first = rw (sym s.form.rest ∙ g) (r ∙ e ∙ worst); all = λ k. absurd (z (sym r ∙ k)) }
          go false g r = record { first = rw (sym s.form.rest ∙ g) r; all = λ k. absurd (suc-ne-zero 13 (sym r ∙ k)) }

  pub looked_all : length l ≤ n → (total : ℕ) → total ≡ samples_in settings (64 - left) bytes → LookAfter settings l 0 total
  unfolding first_bad all_samples
  looked_all h total t =
      let none = orders_end settings l n left h in
      record {
        first = rw (← tested_all s.form h) (ap first_bad (sym none) ∙ s.first);
        all = λ k. omega (arith, t, ap (λ (os : List Order). length (all_samples Newer os)) none, s.sum);
      }

-- ---- all orders sent: what is put, with the orders still to go, is the whole

pub record Sends (settings : ℕ) (l old : List ℕ) (n k : ℕ) (new : List ℕ) : Type 0 where
  pub orders : List Order
  pub to_go : ToGo settings l n orders
  pub fine : first_bad orders ≡ 0
  pub put : Putting old 0 (all_samples Newer (orders_of settings l)) (all_samples Newer orders) k new

pub send_from : (settings : ℕ) (l old : List ℕ) → setup_number settings l (length old) ≡ 0 → Sends settings l old 0 0 old
send_from settings l old z =
    let p = passed settings l (length old) z in
    record {
      orders = orders_of settings l;
      to_go = all_to_go settings l p.good;
      fine = p.fine;
      put = putting_begun old 0 (all_samples Newer (orders_of settings l)) (omega (arith, p.enough));
    }

module _ {settings : ℕ} {l old : List ℕ} {n k : ℕ} {new : List ℕ} (s : Sends settings l old n k new) (h : n < length l) where
  next : Next settings l n s.orders
  next = next_order s.to_go h

  splits : Splits (all_samples Newer s.orders) (samples_of Newer (order_at settings l n)) (all_samples Newer next.others)
  unfolding all_samples
  splits = record { split = ap (all_samples Newer) next.split }

  both_fine : (own_number (order_at settings l n) ≡ 0) × (first_bad next.others ≡ 0)
  both_fine = none_bad (order_at settings l n) next.others (sym (ap first_bad next.split) ∙ s.fine)

  pub next_room : k + length (samples_of Newer (order_at settings l n)) ≤ length new
  next_room = next_fits s.put splits

  pub next_number_lem : send_number Newer (order_at settings l n) (length (drop k new)) ≡ 0
  next_number_lem = room_enough Newer (order_at settings l n) _ both_fine.0 _ (omega (arith, next_room, length-drop k new))

  pub sent_on : {k' : ℕ} {new' : List ℕ} → Put new k (samples_of Newer (order_at settings l n)) k' new' → Sends settings l old (n + 2 + word_at l n) k' new'
  sent_on p = record { orders = next.others; to_go = next.onward; fine = both_fine.1; put = further s.put splits p }

pub sent_all : {settings : ℕ} {l old : List ℕ} {n k : ℕ} {new : List ℕ} → Sends settings l old n k new
    → length l ≤ n → Put old 0 (all_samples Newer (orders_of settings l)) k new
unfolding all_samples
sent_all s h = ended s.put (ap (all_samples Newer) (none_to_go s.to_go h))
