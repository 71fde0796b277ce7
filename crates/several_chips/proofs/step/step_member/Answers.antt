-- `step_member` meets its contract: where a sample moves the last levels alone one byte of the chip changes, else the sample moves the chip.
use native.Mathlib.Omega.{arith}
use Rattle.several_chips.proofs.Bytes.{session_small}
use Rattle.several_chips.proofs.Turning.{stepped_still, stepped_moved}
use Rattle.several_chips.proofs.step.step_member.Goals as goal

pub returns-then-only_levels : goal.returns-then-only_levels
returns-then-only_levels c =
    stepped_still c.requires _ (session_small c.args.member _ c.well_formed.1.0) c.only_levels.ensures
    c.if-only_levels.true c.sees-seen.ensures
    c.bit_at.ensures c.with_clock.ensures c.next_turn.ensures

pub next_turn-requires-2 : goal.next_turn-requires-2
next_turn-requires-2 c =
    omega (arith, c.requires, c.well_formed)

pub returns : goal.returns
returns c =
    stepped_moved c.requires
    _ c.move_member-at.ensures c.next_turn-2.ensures
