-- `places_good` meets its contract: what the loop has found, with the entries that are left, is the whole run.
use mathlib.Core.Path.{ap, ◌∙◌}
use native.Mathlib.Nat.{sub-zero}
use Rattle.map_format.specs.declared.Entry.{Entry}
use Rattle.map_test.specs.MapTest.{kind_rule, place_rule}
use Rattle.map_test.proofs.PlaceKinds.{at_place}
use Rattle.map_test.proofs.Entries.{again, ended}
use Rattle.map_test.proofs.FormedMap.places_good.Goals as goal

pub loop-address-preserved : goal.loop-address-preserved
loop-address-preserved c =
    let at = c.loop-address in
    let kinds = c.args.kinds.now in
    let taken = c.loop-address-test.true in
    again kinds _ 0 _ at.good at.address at.invariant c.kind_good.result c.place_good.result taken
    (c.kind_good.ensures ∙ ap kind_rule c.register_at-entry.ensures)
    (c.place_good.ensures
    ∙ at_place kinds at.address c.register_at-entry.result.kind taken
    ∙ ap (λ (e : Entry). place_rule kinds at.address e.kind) c.register_at-entry.ensures)

pub returns : goal.returns
returns c = let at = c.loop-address in rw sub-zero at (ended _ _ 0 _ at.good at.address at.invariant c.loop-address-test.false)
