-- `check` meets its contract: the tests stand in the order of the definition, and the first that fails gives its number.
use mathlib.Core.Path.{◌≡◌, sym, ◌∙◌}
use mathlib.Core.Bool.{true}
use Prim.Native.Nat.{◌≤◌}
use native.Mathlib.Omega.{arith}
use Rattle.base_bits.specs.Tests.{every}
use Rattle.base_chip.specs.declared.Chip.{Chip}
use Rattle.base_chip.specs.Chip.{top_good}
use Rattle.send_order.specs.Order.{Order, with_data}
use Rattle.send_order.specs.Number.{count_tests}
use Rattle.send_order.proofs.Laws.{counted, start_near}
use Rattle.send_order.proofs.Refusals.{named, early_data, Within, number_12, number_7, number_8, number_9, number_10, number_11, number_0}
use Rattle.send_order.proofs.check.Goals as goal

-- an order that passes starts below 0x8000
near : (chip : Chip) (o : Order) → Within chip o → o.start ≤ 0x7FFF
near chip o w = start_near chip o w.top (counted o w.count) w.addresses

pub returns-then-not-top_good : goal.returns-then-not-top_good
returns-then-not-top_good c =
    let chip = c.args.chip in
    let o = with_data c.args.order c.args.«data».now in
    number_12 chip o _ (sym c.top_good.ensures ∙ c.if-not-top_good.true)

pub returns-then-not-is_named : goal.returns-then-not-is_named
returns-then-not-is_named c =
    let chip = c.args.chip in
    let o = with_data c.args.order c.args.«data».now in
    let passed_12 : top_good chip ≡ true = sym c.top_good.ensures ∙ c.if-not-top_good.false in
    number_7 chip o _ passed_12 (sym c.is_named.ensures ∙ c.if-not-is_named.true)

pub returns-then-not-count_fits : goal.returns-then-not-count_fits
returns-then-not-count_fits c =
    let chip = c.args.chip in
    let o = with_data c.args.order c.args.«data».now in
    let passed_12 : top_good chip ≡ true = sym c.top_good.ensures ∙ c.if-not-top_good.false in
    let passed_7 : named chip o ≡ true = sym c.is_named.ensures ∙ c.if-not-is_named.false in
    number_8 chip o _ passed_12 passed_7 (sym c.count_fits.ensures ∙ c.if-not-count_fits.true)

pub addresses_good-requires : goal.addresses_good-requires
addresses_good-requires c =
    let chip = c.args.chip in
    let o = with_data c.args.order c.args.«data».now in
    let passed_12 : top_good chip ≡ true = sym c.top_good.ensures ∙ c.if-not-top_good.false in
    let passed_7 : named chip o ≡ true = sym c.is_named.ensures ∙ c.if-not-is_named.false in
    let passed_8 : every (count_tests o) ≡ true = sym c.count_fits.ensures ∙ c.if-not-count_fits.false in
    (passed_12, (counted o passed_8).some)

pub returns-then-not-addresses_good : goal.returns-then-not-addresses_good
returns-then-not-addresses_good c =
    let chip = c.args.chip in
    let o = with_data c.args.order c.args.«data».now in
    let passed_12 : top_good chip ≡ true = sym c.top_good.ensures ∙ c.if-not-top_good.false in
    let passed_7 : named chip o ≡ true = sym c.is_named.ensures ∙ c.if-not-is_named.false in
    let passed_8 : every (count_tests o) ≡ true = sym c.count_fits.ensures ∙ c.if-not-count_fits.false in
    number_9 chip o _ passed_12 passed_7 passed_8 (sym (c.addresses_good.ensures _ passed_8) ∙ c.if-not-addresses_good.true)

pub overflow_cast-order : goal.overflow_cast-order
overflow_cast-order c =
    let chip = c.args.chip in
    let o = with_data c.args.order c.args.«data».now in
    let within : Within chip o = record {
      top = sym c.top_good.ensures ∙ c.if-not-top_good.false;
      known = sym c.is_named.ensures ∙ c.if-not-is_named.false;
      count = sym c.count_fits.ensures ∙ c.if-not-count_fits.false;
      addresses =
          sym (c.addresses_good.ensures _ (sym c.count_fits.ensures ∙ c.if-not-count_fits.false)) ∙ c.if-not-addresses_good.false;
    } in
    omega (arith, near chip o within)

pub configures_early-requires : goal.configures_early-requires
configures_early-requires c =
    let chip = c.args.chip in
    let o = with_data c.args.order c.args.«data».now in
    let within : Within chip o = record {
      top = sym c.top_good.ensures ∙ c.if-not-top_good.false;
      known = sym c.is_named.ensures ∙ c.if-not-is_named.false;
      count = sym c.count_fits.ensures ∙ c.if-not-count_fits.false;
      addresses =
          sym (c.addresses_good.ensures _ (sym c.count_fits.ensures ∙ c.if-not-count_fits.false)) ∙ c.if-not-addresses_good.false;
    } in
    omega (arith, near chip o within)

pub returns-then-configures_early : goal.returns-then-configures_early
returns-then-configures_early c =
    let chip = c.args.chip in
    let o = with_data c.args.order c.args.«data».now in
    let within : Within chip o = record {
      top = sym c.top_good.ensures ∙ c.if-not-top_good.false;
      known = sym c.is_named.ensures ∙ c.if-not-is_named.false;
      count = sym c.count_fits.ensures ∙ c.if-not-count_fits.false;
      addresses =
          sym (c.addresses_good.ensures _ (sym c.count_fits.ensures ∙ c.if-not-count_fits.false)) ∙ c.if-not-addresses_good.false;
    } in
    let early : c.configures_early.result ≡ early_data chip o =
    rw (c.is_single-single_instruction.ensures, c.goes_up.ensures) at c.configures_early.ensures in
    number_10 chip o _ within (sym early ∙ c.if-configures_early.true)

pub sample_count-requires : goal.sample_count-requires
sample_count-requires c =
    let chip = c.args.chip in
    let o = with_data c.args.order c.args.«data».now in
    let within : Within chip o = record {
      top = sym c.top_good.ensures ∙ c.if-not-top_good.false;
      known = sym c.is_named.ensures ∙ c.if-not-is_named.false;
      count = sym c.count_fits.ensures ∙ c.if-not-count_fits.false;
      addresses =
          sym (c.addresses_good.ensures _ (sym c.count_fits.ensures ∙ c.if-not-count_fits.false)) ∙ c.if-not-addresses_good.false;
    } in
    (omega arith, omega (arith, (counted o within.count).most))

pub returns-then-room-sample_count : goal.returns-then-room-sample_count
returns-then-room-sample_count c =
    let chip = c.args.chip in
    let o = with_data c.args.order c.args.«data».now in
    let within : Within chip o = record {
      top = sym c.top_good.ensures ∙ c.if-not-top_good.false;
      known = sym c.is_named.ensures ∙ c.if-not-is_named.false;
      count = sym c.count_fits.ensures ∙ c.if-not-count_fits.false;
      addresses =
          sym (c.addresses_good.ensures _ (sym c.count_fits.ensures ∙ c.if-not-count_fits.false)) ∙ c.if-not-addresses_good.false;
    } in
    let early : c.configures_early.result ≡ early_data chip o =
    rw (c.is_single-single_instruction.ensures, c.goes_up.ensures) at c.configures_early.ensures in
    number_11 chip o _ within (sym early ∙ c.if-configures_early.false) _
    (rw c.is_single-single_instruction.ensures at c.sample_count.ensures) c.if-room-sample_count.true

pub returns : goal.returns
returns c =
    let chip = c.args.chip in
    let o = with_data c.args.order c.args.«data».now in
    let within : Within chip o = record {
      top = sym c.top_good.ensures ∙ c.if-not-top_good.false;
      known = sym c.is_named.ensures ∙ c.if-not-is_named.false;
      count = sym c.count_fits.ensures ∙ c.if-not-count_fits.false;
      addresses =
          sym (c.addresses_good.ensures _ (sym c.count_fits.ensures ∙ c.if-not-count_fits.false)) ∙ c.if-not-addresses_good.false;
    } in
    let early : c.configures_early.result ≡ early_data chip o =
    rw (c.is_single-single_instruction.ensures, c.goes_up.ensures) at c.configures_early.ensures in
    number_0 chip o _ within (sym early ∙ c.if-configures_early.false) _
    (rw c.is_single-single_instruction.ensures at c.sample_count.ensures) c.if-room-sample_count.false
