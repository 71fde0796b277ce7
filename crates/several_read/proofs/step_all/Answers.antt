-- `step_all` meets its contract: a turn keeps what is reached, and at the end the outcome is that of the call.
use Rattle.several_read.proofs.Reached.{turns_begun, asked, stepped, nearer, ended}
use Rattle.several_read.proofs.step_all.Goals as goal

pub loop-turn-init : goal.loop-turn-init
loop-turn-init c =
    rw c.first_turn-turn.ensures
    (turns_begun c.args.map.now c.args.members.now c.args.memory.now c.args.samples.now c.args.records.now c.requires.number c.requires.bytes)

pub step_member-stepped-requires : goal.step_member-stepped-requires
step_member-stepped-requires c = asked _ _ _ _ _ c.requires.number c.loop-turn.invariant c.loop-turn-test.true _

pub loop-turn-smaller : goal.loop-turn-smaller
loop-turn-smaller c = nearer _ _ _ _ _ c.requires.number c.loop-turn.invariant c.loop-turn-test.true _ c.step_member-stepped.ensures

pub loop-turn-preserved : goal.loop-turn-preserved
loop-turn-preserved c = stepped _ _ _ _ _ c.requires.number c.loop-turn.invariant c.loop-turn-test.true _ c.step_member-stepped.ensures

pub returns : goal.returns
returns c = ended _ _ _ _ _ c.requires.number c.loop-turn.invariant c.loop-turn-test.false
