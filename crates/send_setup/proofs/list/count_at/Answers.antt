-- `count_at` meets its contract: the order stands whole, so its count is where the form says.
use mathlib.Core.Path.{◌∙◌}
use native.Mathlib.Omega.{arith}
use Rattle.send_setup.proofs.Places.{Stands, stands, count_here}
use Rattle.send_setup.proofs.list.count_at.Goals as goal

pub overflow_add-at : goal.overflow_add-at
overflow_add-at c =
    let t : Stands c.args.list.now c.args.at = stands c.args.list.now c.args.at c.requires in
    omega (arith, c.well_formed)

pub word_at-requires : goal.word_at-requires
word_at-requires c =
    let t : Stands c.args.list.now c.args.at = stands c.args.list.now c.args.at c.requires in
    omega arith

pub returns : goal.returns
returns c = c.word_at.ensures ∙ count_here c.args.list.now c.args.at
