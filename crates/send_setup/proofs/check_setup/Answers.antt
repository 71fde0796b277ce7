-- `check_setup` meets its contract: the tests stand in the order of the definition.
use mathlib.Core.Path.{refl}
use Rattle.std.proofs.lemmas.Result.{err_from_is_err_and}
use Rattle.send_setup.proofs.Numbers.{refused_some, number_first, number_15, number_11, number_0}
use Rattle.send_setup.proofs.check_setup.Goals as goal

pub returns-in_err-total : goal.returns-in_err-total
returns-in_err-total c =
    let p = err_from_is_err_and c.from_residual.result c.from_residual.ensures.1 in
    rw (p.1, p.2) (number_first c.args.settings c.args.list.now c.args.room _ _ c.in_err-total.ensures (refused_some _))

pub returns-then-long : goal.returns-then-long
returns-then-long c =
    number_15 c.args.settings c.args.list.now c.args.room _ _ c.in_ok-total.ensures refl c.if-long.true

pub returns-then-room-total : goal.returns-then-room-total
returns-then-room-total c =
    number_11 c.args.settings c.args.list.now c.args.room _ _ c.in_ok-total.ensures refl c.if-long.false
    c.if-room-total.true

pub returns : goal.returns
returns c =
    number_0 c.args.settings c.args.list.now c.args.room _ _ c.in_ok-total.ensures refl c.if-long.false
    c.if-room-total.false
