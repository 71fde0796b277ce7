-- What the calls leave: the number first, then what is done where it is 0.
use mathlib.Core.Path.{◌≡◌, refl, ap}
use mathlib.Core.List.{List}
use Prim.Native.Nat.{ℕ, ◌<◌, ◌≤◌}
use native.Mathlib.Omega.{arith}
use lib.ListN.{length}
use lib.Dec.{leb}
use borrow.Author.Tests.{eq-eqb, leb-true, le-leb, lt-leb}
use Rattle.base_bits.proofs.Cases.{yes, no, each}
use Rattle.base_numbers.specs.declared.Refusal.{Refusal}
use Rattle.base_numbers.specs.Numbers.{refusal_number}
use Rattle.base_numbers.proofs.Numbers.{not_done}
use Rattle.reg_touched.specs.Touched.{touched_bits, cleared_words, trues, next_true}
use Rattle.reg_touched.specs.Calls.{most_words, words_number, marking, mark_of, touched_count, touched_count_of, searching, search_of}

module _ (ws : List ℕ) where
  pub number_16 : most_words < length ws → 16 ≡ words_number ws
  unfolding words_number
  number_16 h = no _ (lt-leb (length ws) most_words h) refl

  pub number_0 : length ws ≤ most_words → 0 ≡ words_number ws
  unfolding words_number
  number_0 h = yes _ (le-leb (length ws) most_words h) refl

  pub few : words_number ws ≡ 0 → length ws ≤ most_words
  unfolding words_number
  few = each (λ (n : ℕ). n ≡ 0 → length ws ≤ most_words) (leb (length ws) most_words) (λ t e. leb-true (length ws) most_words t) (λ t e. absurd (omega (arith, e)))

  module _ (passed : words_number ws ≡ 0) where
    pub marked : marking 0 (cleared_words ws) ≡ mark_of ws
    unfolding mark_of
    marked = yes _ (eq-eqb _ _ passed) refl

    pub counted : (n : ℕ) → n ≡ trues (touched_bits ws) → touched_count 0 n ≡ touched_count_of ws
    unfolding touched_count_of
    counted n c = yes _ (eq-eqb _ _ passed) (ap (touched_count 0) c)

    pub found : (a n : ℕ) → n ≡ next_true (touched_bits ws) a → searching 0 n ≡ search_of ws a
    unfolding search_of
    found a n c = yes _ (eq-eqb _ _ passed) (ap (searching 0) c)

  module _ (e : Refusal) (h : refusal_number e ≡ words_number ws) where
    pub not_marked : marking (refusal_number e) ws ≡ mark_of ws
    unfolding mark_of
    not_marked = rw (← h) (no _ (not_done e) refl)

    pub not_counted : touched_count (refusal_number e) 0 ≡ touched_count_of ws
    unfolding touched_count_of
    not_counted = rw (← h) (no _ (not_done e) refl)

    pub not_found : (a : ℕ) → searching (refusal_number e) 0 ≡ search_of ws a
    unfolding search_of
    not_found a = rw (← h) (no _ (not_done e) refl)
