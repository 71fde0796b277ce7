-- `kind_good` meets its contract: for each kind the joined tests are that kind's rule.
use mathlib.Core.Path.{◌≡◌, refl}
use mathlib.Core.Bool.{Bool, true, false, cond, ◌&&◌, ◌||◌, and-true, and-false}
use Prim.Native.Nat.{ℕ, zero, suc}
use native.Mathlib.Omega.{arith}
use borrow.Author.Tests.{ne_eqb}
use lib.Dec.{eqb}
use Rattle.map_test.specs.MapTest.{kind_rule}
use Rattle.map_test.proofs.kind_good.Goals as goal

-- kind k; x: the mask is 0; y: the default is 0
each_kind :
    (k : ℕ) (x y : Bool)
    → (eqb k 2 || eqb k 3 || (x && (eqb k 1 || ((eqb k 0 || eqb k 4) && y))))
    ≡ cond (eqb k 0) (x && y) (cond (eqb k 1) x (cond (eqb k 2) true (cond (eqb k 3) true (cond (eqb k 4) (x && y) false))))
each_kind zero x y = refl
each_kind (suc zero) x y = and-true x
each_kind (suc (suc zero)) x y = refl
each_kind (suc (suc (suc zero))) x y = refl
each_kind (suc (suc (suc (suc zero)))) x y = refl
each_kind (suc (suc (suc (suc (suc j))))) x y =
    let k = suc (suc (suc (suc (suc j)))) in
    rw (
      ne_eqb k 0 (λ e. omega arith),
      ne_eqb k 1 (λ e. omega arith),
      ne_eqb k 2 (λ e. omega arith),
      ne_eqb k 3 (λ e. omega arith),
      ne_eqb k 4 (λ e. omega arith),
    )
    (and-false x)

pub returns : goal.returns
unfolding kind_rule
returns c =
    let entry = c.args.entry in
    each_kind entry.kind (eqb entry.mask 0) (eqb entry.default 0)
