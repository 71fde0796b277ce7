-- `send_all` meets its contract: what is put, with the orders still to go, is the whole.
use native.Mathlib.Omega.{arith}
use Rattle.send_setup.proofs.Walk.{whole_next, stands_next}
use Rattle.send_setup.proofs.Loops.{send_from, next_room, next_number_lem, sent_on, sent_all}
use Rattle.send_setup.proofs.send_all.Goals as goal

pub loop-at-init : goal.loop-at-init
loop-at-init c = send_from _ _ _ c.requires

pub after-next-requires : goal.after-next-requires
after-next-requires c = whole_next c.loop-at.invariant.to_go c.loop-at-test.true

pub send_at-n-requires : goal.send_at-n-requires
send_at-n-requires c =
    let i = c.loop-at.invariant in
    let h = c.loop-at-test.true in
    record {
      list_value = (whole_next i.to_go h, omega (arith, next_room i h));
      out_value = next_number_lem i h;
    }

pub loop-at-smaller : goal.loop-at-smaller
loop-at-smaller c =
    let s = stands_next c.loop-at.invariant.to_go c.loop-at-test.true in
    omega (arith, c.after-next.ensures)

pub loop-at-preserved : goal.loop-at-preserved
loop-at-preserved c =
    rw c.after-next.ensures (sent_on c.loop-at.invariant c.loop-at-test.true c.send_at-n.ensures)

pub shape_of-out : goal.shape_of-out
shape_of-out c = c.loop-at.invariant.put.same

pub returns : goal.returns
returns c = sent_all c.loop-at.invariant c.loop-at-test.false
