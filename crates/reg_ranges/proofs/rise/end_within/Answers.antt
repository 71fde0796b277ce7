-- `end_within` meets its contract: a transfer, or nothing.
use mathlib.Core.Path.{refl, sym, ap, ◌∙◌}
use Rattle.base_bits.proofs.Cases.{yes, no}
use Rattle.reg_write.specs.Rise.{rise_banks}
use Rattle.reg_ranges.specs.Ranges.{placed}
use Rattle.reg_ranges.proofs.Laws.{placed_same}
use Rattle.reg_ranges.proofs.rise.end_within.Goals as goal

pub returns-then-armed-moves_at_rise : goal.returns-then-armed-moves_at_rise
unfolding rise_banks
returns-then-armed-moves_at_rise c =
    c.transfer_within.ensures
    ∙ ap (placed _ _ _) (yes _ (rw c.moves_at_rise.ensures at c.if-armed-moves_at_rise.true) refl)

pub returns-else-armed-moves_at_rise : goal.returns-else-armed-moves_at_rise
unfolding rise_banks
returns-else-armed-moves_at_rise c =
    sym (placed_same c.requires)
    ∙ ap (placed _ _ _) (no _ (rw c.moves_at_rise.ensures at c.if-armed-moves_at_rise.false) refl)
