-- The number of an order, by the tests that it passes and the first that it fails.
use mathlib.Core.Path.{◌≡◌, refl, sym, ◌∙◌}
use mathlib.Core.Bool.{Bool, true, false, cond, not, ◌&&◌}
use mathlib.Core.List.{List}
use Prim.Native.Nat.{ℕ, ◌+◌, ◌*◌, ◌<◌, ◌≤◌}
use lib.ListN.{length}
use lib.Dec.{leb}
use borrow.Author.Tests.{le-leb, lt-leb}
use Rattle.base_bits.specs.Tests.{every}
use Rattle.base_chip.specs.Chip.{top_good}
use Rattle.base_chip.specs.declared.Chip.{Chip}
use Rattle.send_order.specs.Order.{Order, is_read, goes_up, is_single, run_from, sent_of, run_bytes}
use Rattle.send_order.specs.Samples.{samples_of}
use Rattle.send_order.specs.Number.{configures_early, count_tests, most_settings, addresses_good, send_number}
use Rattle.send_order.proofs.Laws.{counted, length_counted}

-- the tests of the numbers 7 and 10; that of 10 by the data, for a read is never refused for it
abbrev pub named : Chip → Order → Bool
named c o = leb o.direction 1 && leb o.settings (most_settings c)

abbrev pub early_data : Chip → Order → Bool
early_data c o = is_single c o && not (is_read o) && configures_early (run_from (goes_up c o) o.start o.bytes)

early_data_lem : (c : Chip) (o : Order) → (is_single c o && not (is_read o) && configures_early (run_bytes c o)) ≡ early_data c o
early_data_lem c o = go (is_single c o) (is_read o)
  where
    early : List ℕ → Bool
    early vs = configures_early (run_from (goes_up c o) o.start vs)

    go : (single read : Bool) → (single && not read && early (sent_of read o.count o.bytes)) ≡ (single && not read && early o.bytes)
    go true true = refl
    go true false = refl
    go false read = refl

-- the tests of 12, 7, 8 and 9 hold
pub record Within (c : Chip) (o : Order) : Type 0 where
  pub top : top_good c ≡ true
  pub known : named c o ≡ true
  pub count : every (count_tests o) ≡ true
  pub addresses : addresses_good c o ≡ true

module _ (c : Chip) (o : Order) (room : ℕ) where
  pub number_12 : top_good c ≡ false → 12 ≡ send_number c o room
  unfolding send_number
  number_12 h = rw h

  pub number_7 : top_good c ≡ true → named c o ≡ false → 7 ≡ send_number c o room
  unfolding send_number
  number_7 h h7 = rw (h, h7)

  pub number_8 : top_good c ≡ true → named c o ≡ true → every (count_tests o) ≡ false → 8 ≡ send_number c o room
  unfolding send_number
  number_8 h h7 h8 = rw (h, h7, h8)

  pub number_9 : top_good c ≡ true → named c o ≡ true → every (count_tests o) ≡ true → addresses_good c o ≡ false → 9 ≡ send_number c o room
  unfolding send_number
  number_9 h h7 h8 h9 = rw (h, h7, h8, h9)

  module _ (w : Within c o) where
    pub number_10 : early_data c o ≡ true → 10 ≡ send_number c o room
    unfolding send_number
    number_10 h = rw (w.top, w.known, w.count, w.addresses, early_data_lem c o ∙ h)

    module _ (h : early_data c o ≡ false) (n : ℕ) (e : n ≡ cond (is_single c o) (3 + 48 * o.count) (35 + 16 * o.count)) where
      needed : n ≡ length (samples_of c o)
      needed = e ∙ sym (length_counted c o (counted o w.count))

      pub number_11 : room < n → 11 ≡ send_number c o room
      unfolding send_number
      number_11 hr = rw (w.top, w.known, w.count, w.addresses, early_data_lem c o ∙ h, lt-leb _ _ (rw needed at hr))

      pub number_0 : n ≤ room → 0 ≡ send_number c o room
      unfolding send_number
      number_0 hr = rw (w.top, w.known, w.count, w.addresses, early_data_lem c o ∙ h, le-leb _ _ (rw needed at hr))
