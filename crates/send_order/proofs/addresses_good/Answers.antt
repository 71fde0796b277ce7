-- `addresses_good` meets its contract: by the chip.
use mathlib.Core.Path.{sym, ap, ◌∙◌}
use mathlib.Core.Bool.{Bool}
use native.Mathlib.Omega.{arith}
use Rattle.base_chip.specs.Chip.{top_good}
use Rattle.base_chip.specs.declared.Chip.{Chip}
use Rattle.send_order.specs.Order.{with_data, is_read, run_from, sent_bytes}
use Rattle.send_order.specs.Number.{up_to, addresses_good}
use Rattle.send_order.proofs.Laws.{counted, top_low, length_sent}
use Rattle.send_order.proofs.addresses_good.Goals as goal

pub stays_up_to-requires : goal.stays_up_to-requires
stays_up_to-requires c =
    let pre = c.requires in
    (omega (arith, top_low c.in-Older.part c.in-Older.top (sym (ap top_good c.in-Older.is) ∙ pre.0)), pre.1)

pub returns-in-Newer : goal.returns-in-Newer
returns-in-Newer c =
    let o = c.args.order in
    λ bytes k. ap (λ (chip : Chip). addresses_good chip (with_data o bytes)) (sym c.in-Newer.is)

pub returns-in-Older : goal.returns-in-Older
returns-in-Older c =
    let o = c.args.order in
    λ bytes k.
    let sent = sent_bytes (with_data o bytes) in
    c.stays_up_to.ensures sent (length_sent (is_read (with_data o bytes)) o.count bytes (counted (with_data o bytes) k).data_length)
    ∙ ap (λ (up : Bool). up_to c.in-Older.top (run_from up o.start sent)) c.goes_up.ensures
    ∙ ap (λ (chip : Chip). addresses_good chip (with_data o bytes)) (sym c.in-Older.is)
