-- `touch_written` meets its contract: a touch, or nothing.
use mathlib.Core.Path.{refl, sym, ◌∙◌}
use Rattle.base_bits.proofs.Cases.{yes, no}
use Rattle.read_records.proofs.touch_written.Goals as goal

pub touch-requires : goal.touch-requires
touch-requires c = c.requires (sym c.touches.ensures ∙ c.if-touches.true)

pub returns-then-touches : goal.returns-then-touches
returns-then-touches c =
    yes _ (sym c.touches.ensures ∙ c.if-touches.true) c.touch.ensures

pub returns-else-touches : goal.returns-else-touches
returns-else-touches c = no _ (sym c.touches.ensures ∙ c.if-touches.false) refl
