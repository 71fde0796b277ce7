-- `count_all` meets its contract: the records counted, with those of the chips that are left, are the whole.
use native.Mathlib.Omega.{arith}
use Rattle.several_refusals.proofs.Counting.{few_records, next_asked, more_chips, no_chip}
use Rattle.several_refusals.proofs.room.count_all.Goals as goal

pub count_records-count-requires : goal.count_records-count-requires
count_records-count-requires c =
    next_asked _ _ c.requires c.loop-i.i _ c.loop-i-test.true c.port_of.ensures

pub overflow_add-count : goal.overflow_add-count
overflow_add-count c =
    let at = c.loop-i in
    omega (
      arith,
      few_records _ _ c.requires,
      more_chips _ _ c.requires at.i _ c.loop-i-test.true c.port_of.ensures at.count c.count_records-count.ensures at.invariant,
    )

pub loop-i-preserved : goal.loop-i-preserved
loop-i-preserved c =
    let at = c.loop-i in
    more_chips _ _ c.requires at.i _ c.loop-i-test.true c.port_of.ensures at.count c.count_records-count.ensures at.invariant

pub returns : goal.returns
returns c =
    let at = c.loop-i in
    omega (arith, at.invariant, no_chip _ _ c.requires at.i c.loop-i-test.false)
