-- `others_good` meets its contract: as for the places of a table, and by the empty table every place is free.
use mathlib.Core.Path.{ap, ◌∙◌}
use mathlib.Core.Bool.{not}
use mathlib.Core.List.{[]}
use Prim.Native.Nat.{ℕ, ◌-◌}
use lib.Dec.{eqb}
use Rattle.map_format.specs.declared.Entry.{Entry}
use Rattle.map_format.specs.Format.{control}
use Rattle.map_test.specs.MapTest.{kind_rule, place_rule, entries_good}
use Rattle.map_test.proofs.Entries.{again, ended}
use Rattle.map_test.proofs.FormedMap.others_good.Goals as goal

pub loop-address-preserved : goal.loop-address-preserved
unfolding place_rule
loop-address-preserved c =
    let at = c.loop-address in
    let kind = c.register_at-entry.result.kind in
    again [] _ _ _ at.good at.address at.invariant c.kind_good.result (not (eqb kind control)) c.loop-address-test.true
    (c.kind_good.ensures ∙ ap kind_rule c.register_at-entry.ensures)
    (ap (λ (e : Entry). not (eqb e.kind control)) c.register_at-entry.ensures)

pub returns : goal.returns
returns c =
    let at = c.loop-address in
    let a = c.args in
    ended [] _ _ _ at.good at.address at.invariant c.loop-address-test.false
    ∙ ap (λ (n : ℕ). entries_good [] a.self.bytes.now a.first (n - a.first)) c.count-address-end.ensures
