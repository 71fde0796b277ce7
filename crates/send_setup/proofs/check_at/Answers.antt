-- `check_at` meets its contract: with room for any order, the sender's check gives the order's own number.
use mathlib.Core.Path.{ap, ◌∙◌}
use native.Mathlib.Omega.{arith}
use Rattle.base_chip.specs.declared.Chip.TheVariants.{Newer}
use Rattle.send_order.specs.Order.{Order}
use Rattle.send_order.specs.Number.{send_number}
use Rattle.send_order.proofs.Laws.{number_alone}
use Rattle.send_setup.proofs.Places.{Stands, stands, data_here}
use Rattle.send_setup.proofs.check_at.Goals as goal

pub overflow_add-from : goal.overflow_add-from
overflow_add-from c =
    let t : Stands c.args.list.now c.args.at = stands c.args.list.now c.args.at c.requires.0 in
    omega (arith, c.well_formed)

pub order_at-order-requires : goal.order_at-order-requires
order_at-order-requires c = c.requires.0

pub slice_bounds-check-count : goal.slice_bounds-check-count
slice_bounds-check-count c =
    let t : Stands c.args.list.now c.args.at = stands c.args.list.now c.args.at c.requires.0 in
    omega (arith, c.requires.1)

pub slice_bounds-check-start : goal.slice_bounds-check-start
slice_bounds-check-start c =
    let t : Stands c.args.list.now c.args.at = stands c.args.list.now c.args.at c.requires.0 in
    omega (arith, c.requires.1)

pub slice_bounds-check-end : goal.slice_bounds-check-end
slice_bounds-check-end c =
    let t : Stands c.args.list.now c.args.at = stands c.args.list.now c.args.at c.requires.0 in
    omega (arith, c.requires.1)

pub returns : goal.returns
returns c =
    let o = c.order_at-order in
    let here = data_here o.result c.args.settings c.args.list.now c.args.at _ c.requires.1 o.ensures in
    c.check.ensures ∙ ap (λ (order : Order). send_number Newer order 0x400000) here ∙ number_alone Newer _ 0x400000 (omega arith)
