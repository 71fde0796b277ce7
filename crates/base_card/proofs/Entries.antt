-- The rule of the card, proved once by a test over its sixteen entries, and what follows for a byte.
use mathlib.Core.Path.{◌≡◌, refl, sym}
use mathlib.Core.Bool.{Bool, true}
use mathlib.Core.List.{List, [], ◌∷◌}
use Prim.Native.Nat.{ℕ, ◌+◌, ◌*◌, ◌/◌, ◌%◌, ◌<◌}
use native.Mathlib.Omega.{arith}
use lib.ListN.{get_or}
use lib.Dec.{eqb}
use borrow.Author.Tests.{eqb-true}
use Rattle.base_bits.proofs.Tables.{all_below, below}
use Rattle.base_card.specs.Card.{turned, IsCard}
use Rattle.base_card.proofs.Laws.{turned_lt, turned_both, turned_low}

-- the code's table
abbrev card : List ℕ
card = 0x0 ∷ 0x8 ∷ 0x4 ∷ 0xC ∷ 0x2 ∷ 0xA ∷ 0x6 ∷ 0xE ∷ 0x1 ∷ 0x9 ∷ 0x5 ∷ 0xD ∷ 0x3 ∷ 0xB ∷ 0x7 ∷ 0xF ∷ []

-- an entry is its nibble turned
abbrev right : ℕ → Bool
right n = eqb (get_or card n 0) (turned 4 n)

card_right : all_below right 16 ≡ true
unfolding turned
card_right = refl

pub is_card : IsCard card
is_card n h = eqb-true (get_or card n 0) (turned 4 n) (below right 16 card_right n h)

-- a byte turned: its two nibbles turned, and exchanged
module _ (t : List ℕ) (is : IsCard t) (x : ℕ) (h : x < 256) where
  pub turned_by_card : get_or t (x % 16) 0 * 16 + get_or t (x / 16) 0 ≡ turned 8 x
  turned_by_card = rw (is (x % 16) (omega arith), is (x / 16) (omega arith), turned_low 4 x) (sym (turned_both 4 4 x))

  pub by_card_lt : get_or t (x % 16) 0 * 16 + get_or t (x / 16) 0 < 256
  by_card_lt = rw turned_by_card (turned_lt 8 x)
