-- `send_at` meets its contract: what is put into the part is put into the whole.
use mathlib.Core.Path.{◌≡◌, ap, subst, ◌∙◌}
use mathlib.Core.List.{List}
use Prim.Native.Nat.{ℕ, ◌+◌, ◌-◌}
use native.Mathlib.Omega.{arith}
use lib.ListN.{length, take, drop, length-drop}
use Rattle.base_bits.specs.Buffer.{Put}
use Rattle.base_chip.specs.declared.Chip.TheVariants.{Newer}
use Rattle.send_order.specs.Order.{Order, with_data}
use Rattle.send_order.specs.Samples.{samples_of}
use Rattle.send_order.specs.Number.{send_number}
use Rattle.send_order.proofs.Laws.{admitted}
use Rattle.send_setup.proofs.Places.{Stands, stands, data_here}
use Rattle.send_setup.proofs.Parts.{rest_part, part_put}
use Rattle.send_setup.proofs.Walk.{order_at}
use Rattle.send_setup.proofs.send_at.Goals as goal

pub overflow_add-from : goal.overflow_add-from
overflow_add-from c =
    let t : Stands c.args.list.now c.args.at = stands c.args.list.now c.args.at c.requires.list_value.0 in
    omega (arith, c.well_formed)

pub slice_bounds-put_samples-count : goal.slice_bounds-put_samples-count
slice_bounds-put_samples-count c =
    let t : Stands c.args.list.now c.args.at = stands c.args.list.now c.args.at c.requires.list_value.0 in
    omega (arith, c.after-end.ensures)

pub slice_bounds-put_samples-start : goal.slice_bounds-put_samples-start
slice_bounds-put_samples-start c =
    let t : Stands c.args.list.now c.args.at = stands c.args.list.now c.args.at c.requires.list_value.0 in
    omega (arith, c.after-end.ensures)

pub slice_bounds-put_samples-end : goal.slice_bounds-put_samples-end
slice_bounds-put_samples-end c =
    let t : Stands c.args.list.now c.args.at = stands c.args.list.now c.args.at c.requires.list_value.0 in
    omega (arith, c.after-end.ensures)

pub put_samples-requires : goal.put_samples-requires
put_samples-requires c =
    let a = c.args in
    let same_order : with_data c.order_at-order.result (take (c.after-end.result - (a.at + 8)) (drop (a.at + 8) a.list.now)) ≡ order_at a.settings a.list.now a.at =
    data_here c.order_at-order.result a.settings a.list.now a.at _ c.after-end.ensures c.order_at-order.ensures in
    let part = take (length a.out.now - a.n) (drop a.n a.out.now) in
    record {
      out_value =
          ap (λ (o : Order). send_number Newer o (length part)) same_order
          ∙ ap (λ (l : List ℕ). send_number Newer (order_at a.settings a.list.now a.at) (length l)) (rest_part a.out.now a.n)
          ∙ c.requires.out_value;
    }

pub overflow_add-result : goal.overflow_add-result
overflow_add-result c =
    let a = c.args in
    let same_order : with_data c.order_at-order.result (take (c.after-end.result - (a.at + 8)) (drop (a.at + 8) a.list.now)) ≡ order_at a.settings a.list.now a.at =
    data_here c.order_at-order.result a.settings a.list.now a.at _ c.after-end.ensures c.order_at-order.ensures in
    let part = take (length a.out.now - a.n) (drop a.n a.out.now) in
    let put = part_put _ a.out.now a.n _ _ c.requires.list_value.1 (admitted Newer _ _ c.requires.out_value).enough
    (subst (λ (o : Order). Put part 0 (samples_of Newer o) c.put_samples.result c.put_samples.new.out) same_order c.put_samples.ensures) in
    omega (
      arith,
      put.next_place,
      (admitted Newer _ _ c.requires.out_value).enough,
      length-drop a.n a.out.now,
      c.requires.list_value.1,
      c.well_formed,
    )

pub returns : goal.returns
returns c =
    let a = c.args in
    let same_order : with_data c.order_at-order.result (take (c.after-end.result - (a.at + 8)) (drop (a.at + 8) a.list.now)) ≡ order_at a.settings a.list.now a.at =
    data_here c.order_at-order.result a.settings a.list.now a.at _ c.after-end.ensures c.order_at-order.ensures in
    let part = take (length a.out.now - a.n) (drop a.n a.out.now) in
    let put = part_put _ a.out.now a.n _ _ c.requires.list_value.1 (admitted Newer _ _ c.requires.out_value).enough
    (subst (λ (o : Order). Put part 0 (samples_of Newer o) c.put_samples.result c.put_samples.new.out) same_order c.put_samples.ensures) in
    put
