-- What the code hands on: what a look over a list finds.
use Rattle.std.specs.Prelude.{ℕ, ◌+◌, ◌≡◌, cond, Option, Some, None, List, length, drop, eqb}
use Rattle.base_bits.specs.Bytes.{word_at}
use Rattle.base_bits.specs.Tests.{every, unless}
use Rattle.base_numbers.specs.Numbers.{bad_list}
use Rattle.base_chip.specs.declared.Chip.TheVariants.{Newer}
use Rattle.send_order.specs.Samples.{all_samples}
use Rattle.send_setup.specs.Form.{whole_tests, list_good}
use Rattle.send_setup.specs.Calls.{most_orders, orders_of, first_bad}

-- the place after the order at a place, where so many may stand: none where none may, or none stands whole
abbrev pub order_end : List ℕ → ℕ → ℕ → Option ℕ
order_end l n left = cond (eqb left 0) None (cond (every (whole_tests (drop n l))) (Some (n + 2 + word_at l n)) None)

-- the number but for 15 and 11, and where it is 0 the total
pub record LookAfter (settings : ℕ) (list : List ℕ) (number total : ℕ) : Type 0 where
  pub first : number ≡ unless (list_good most_orders list) bad_list (first_bad (orders_of settings list))
  pub all : number ≡ 0 → total ≡ length (all_samples Newer (orders_of settings list))
