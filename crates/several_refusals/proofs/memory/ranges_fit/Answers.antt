-- `ranges_fit` meets its contract: the test of each chip is that of the definition.
use mathlib.Core.Path.{refl, ◌∙◌}
use mathlib.Core.Bool.{Bool, ◌&&◌}
use lib.Dec.{eqb}
use borrow.Author.Tests.{tests}
use Rattle.std.proofs.Common.{rules}
use Rattle.std.specs.List.{list_all}
use Rattle.std.proofs.lemmas.Iterator.{YieldsList-from_slice}
use Rattle.std.proofs.lemmas.Iterator.Search.{all_from_yields_List}
use Rattle.std.proofs.lemmas.List.Recursion.{same_from_clauses}
use Rattle.several_chips.specs.declared.Member.{Member}
use Rattle.several_chips.specs.Numbers.{ranges_fit}
use Prim.Native.Nat.{ℕ}
use Rattle.several_refusals.proofs.memory.ranges_fit.Goals as goal

abbrev fits : ℕ → Member → Bool
fits n w = eqb w.active_length n && eqb w.buffer_length n

pub returns : goal.returns
unfolding ranges_fit
returns c =
    let ws = c.args.members.now in
    let n = c.args.length in
    all_from_yields_List (fits n) _ _ _ c.all.ensures.ran (YieldsList-from_slice ws cc) (λ x b q k. search (rules, tests))
    ∙ same_from_clauses (list_all (fits n)) (ranges_fit n) (λ w b. fits n w && b) refl (λ w us. refl) (λ w us. refl) ws
