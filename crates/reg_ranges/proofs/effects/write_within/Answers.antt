-- `write_within` meets its contract: the effect of the write is applied to the ranges, and answered.
use mathlib.Core.Path.{sym, ◌∙◌}
use Rattle.reg_write.specs.Write.{write_banks}
use Rattle.reg_ranges.proofs.Laws.{effect_below}
use Rattle.reg_ranges.proofs.effects.write_within.Goals as goal

pub apply_within-requires : goal.apply_within-requires
apply_within-requires c =
    let within = c.requires in
    (within, λ o a x y t. effect_below within _ _ o a x y (sym c.effect_within-effect.ensures ∙ t))

pub returns : goal.returns
unfolding write_banks
returns c =
    let e = c.effect_within-effect.ensures in
    record { answer_is = c.answer.ensures ∙ rw e; memory_after = c.apply_within.ensures ∙ rw e }
