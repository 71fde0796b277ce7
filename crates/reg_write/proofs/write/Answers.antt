-- `write` meets its contract: the effect of the write is applied to the banks, and answered.
use mathlib.Core.Path.{sym, ◌∙◌}
use Rattle.reg_write.specs.Write.{write_banks}
use Rattle.reg_write.proofs.Laws.{byte_below}
use Rattle.reg_write.proofs.write.Goals as goal

pub apply-requires : goal.apply-requires
apply-requires c =
    let mapped = c.requires in
    (mapped, λ o a x y t. byte_below _ mapped _ _ _ o a x y (sym c.effect_at-effect.ensures ∙ t))

pub returns : goal.returns
unfolding write_banks
returns c =
    record { answer_is = c.answer.ensures ∙ rw c.effect_at-effect.ensures; next_banks = c.apply.ensures ∙ rw c.effect_at-effect.ensures }
