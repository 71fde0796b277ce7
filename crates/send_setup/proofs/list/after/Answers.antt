-- `after` meets its contract: the order stands whole, so its end is within the list.
use native.Mathlib.Omega.{arith}
use Rattle.send_setup.proofs.Places.{Stands, stands}
use Rattle.send_setup.proofs.list.after.Goals as goal

pub overflow_add-result : goal.overflow_add-result
overflow_add-result c =
    let t : Stands c.args.list.now c.args.at = stands c.args.list.now c.args.at c.requires in
    omega (arith, c.well_formed)

pub word_at-requires : goal.word_at-requires
word_at-requires c =
    let t : Stands c.args.list.now c.args.at = stands c.args.list.now c.args.at c.requires in
    omega arith

pub overflow_add-result-2 : goal.overflow_add-result-2
overflow_add-result-2 c =
    let t : Stands c.args.list.now c.args.at = stands c.args.list.now c.args.at c.requires in
    omega (arith, c.word_at.ensures, c.well_formed)
