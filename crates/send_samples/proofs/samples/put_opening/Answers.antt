-- `put_opening` meets its contract: 0x00 at the start, and in streaming the instruction after it.
use mathlib.Core.Path.{◌≡◌, refl, ◌∙◌}
use mathlib.Core.List.{[], ◌∷◌}
use native.Mathlib.Omega.{arith}
use lib.ListN.{length, length-set}
use Rattle.base_bits.proofs.Putting.{put_both}
use Rattle.send_order.specs.Samples.{bits_of, instruction_of, clocked}
use Rattle.send_order.proofs.Laws.{length_bits_lem, length_clocked}
use Rattle.send_samples.proofs.samples.put_opening.Goals as goal

pub returns-then-run : goal.returns-then-run
unfolding clocked
returns-then-run c = rw c.if-run.true (record { next_place = refl; buffer = refl })

pub put_sixteen-requires : goal.put_sixteen-requires
put_sixteen-requires c =
    let a = c.args in
    let room = rw c.if-run.false at c.requires.lower_bound.1 in
    let bits : length (clocked (bits_of a.run.lsb_first 16 (instruction_of a.run.read a.lower))) ≡ 32 = simp (length_clocked, length_bits_lem) in
    record { at_in_bounds = simp length-set (omega arith) }

pub shape_of-out : goal.shape_of-out
shape_of-out c = c.put_sixteen.auto.out ∙ simp length-set

pub returns : goal.returns
returns c =
    rw (c.if-run.false, ← c.instruction.ensures)
    (put_both {xs = 0x00 ∷ []} (record { next_place = refl; buffer = refl }) c.put_sixteen.ensures)
