-- `order_at` meets its contract: the order stands whole, so each part is where the form says.
use Prim.Native.Nat.{◌+◌}
use native.Mathlib.Omega.{arith}
use Rattle.send_setup.proofs.Places.{Stands, stands, order_here}
use Rattle.send_setup.proofs.list.order_at.Goals as goal

pub overflow_add-result : goal.overflow_add-result
overflow_add-result c =
    let t : Stands c.args.list.now c.args.at = stands c.args.list.now c.args.at c.requires in
    omega (arith, c.well_formed)

pub bounds-list-at : goal.bounds-list-at
bounds-list-at c =
    let t : Stands c.args.list.now c.args.at = stands c.args.list.now c.args.at c.requires in
    omega arith

pub overflow_cast-result : goal.overflow_cast-result
overflow_cast-result c = omega (arith, c.type_inv.list (c.args.at + 3))

pub overflow_add-at : goal.overflow_add-at
overflow_add-at c =
    let t : Stands c.args.list.now c.args.at = stands c.args.list.now c.args.at c.requires in
    omega (arith, c.well_formed)

pub word_at-requires : goal.word_at-requires
word_at-requires c =
    let t : Stands c.args.list.now c.args.at = stands c.args.list.now c.args.at c.requires in
    omega arith

pub count_at-requires : goal.count_at-requires
count_at-requires c = c.requires

pub returns : goal.returns
returns c =
    rw (c.count_at.ensures, c.word_at.ensures) (order_here c.args.settings c.args.list.now c.args.at)
