-- `count_fits` meets its contract: its three tests are those of the definition.
use mathlib.Core.Path.{◌≡◌, refl}
use mathlib.Core.Bool.{Bool, true, false, cond, ◌&&◌}
use mathlib.Core.List.{[], ◌∷◌}
use lib.Dec.{eqb}
use borrow.Author.Tests.{eq-eqb, ne_eqb}
use Rattle.base_bits.specs.Tests.{every}
use Rattle.send_order.proofs.count_fits.Goals as goal
use Rattle.send_order.proofs.count_fits.Goals.{then-order-eq1, else-order-eq1}

three : (a b c : Bool) → (a && b && c) ≡ every (a ∷ b ∷ c ∷ [])
unfolding every
three true true true = refl
three true true false = refl
three true false c = refl
three false b c = refl

pub returns : goal.returns
returns c =
    let due_is : let o = c.args.order in
    c.if-order-eq1.due ≡ cond (eqb o.direction 1) 0 o.count =
    elim c.if-order-eq1.branch [ then-order-eq1 w ↦ rw (eq-eqb _ _ w.if-order-eq1.true) w.due-is | else-order-eq1 w ↦ rw (ne_eqb _ _ w.if-order-eq1.false) w.due-is ] in
    rw due_is (three _ _ _)
