-- `look_over` meets its contract: what is found, with what is left of the list, is the whole.
use mathlib.Core.Path.{◌≡◌, sym}
use native.Mathlib.Omega.{arith}
use Rattle.base_bits.specs.Bits.{bit_at}
use Rattle.send_setup.specs.Calls.{own_number}
use Rattle.send_setup.proofs.Walk.{Ends, ends, order_at}
use Rattle.send_setup.proofs.Numbers.{refused_some}
use Rattle.send_setup.proofs.Loops.{look_from, looked_14, count_few, look_on, looked_bad, looked_all}
use Rattle.send_setup.proofs.look_over.Goals as goal

pub loop-at-init : goal.loop-at-init
loop-at-init c = look_from _ _

pub returns-in_default : goal.returns-in_default
returns-in_default c = looked_14 c.loop-at.invariant c.loop-at-test.true _ c.in_default.ensures

pub returns-in-Err : goal.returns-in-Err
returns-in-Err c =
    let there : Ends c.args.list.now c.loop-at.at c.loop-at.left c.in-Some.end = ends _ _ _ _ c.in-Some.ensures in
    looked_bad c.loop-at.invariant c.loop-at-test.true there _ _ _ c.in-Err.ensures (refused_some c.in-Err.bad) c.stopped.ensures

pub overflow_add-bytes : goal.overflow_add-bytes
overflow_add-bytes c =
    let there : Ends c.args.list.now c.loop-at.at c.loop-at.left c.in-Some.end = ends _ _ _ _ c.in-Some.ensures in
    let good : own_number (order_at c.args.settings c.args.list.now c.loop-at.at) ≡ 0 = sym c.in_default-check_at.ensures in
    let i = c.loop-at.invariant in
    omega (arith, i.most, count_few i c.loop-at-test.true there good _ c.count_at-bytes.ensures)

pub loop-at-preserved : goal.loop-at-preserved
loop-at-preserved c =
    let there : Ends c.args.list.now c.loop-at.at c.loop-at.left c.in-Some.end = ends _ _ _ _ c.in-Some.ensures in
    let good : own_number (order_at c.args.settings c.args.list.now c.loop-at.at) ≡ 0 = sym c.in_default-check_at.ensures in
    look_on c.loop-at.invariant c.loop-at-test.true there good _ c.count_at-bytes.ensures

pub returns : goal.returns
unfolding bit_at
returns c = looked_all c.loop-at.invariant c.loop-at-test.false _ c.sample_count.ensures
