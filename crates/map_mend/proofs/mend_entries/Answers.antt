-- `mend_entries` meets its contract: in each turn the next entry, still the old one, is listed if it has to be, and mended.
use mathlib.Core.Path.{◌≡◌, ap, ◌∙◌}
use Prim.Native.Nat.{◌<◌}
use native.Mathlib.Omega.{arith}
use Rattle.map_format.specs.Format.{count_of, register_at}
use Rattle.map_test.specs.MapTest.{Formed}
use Rattle.map_mend.specs.Entry.{mended_at}
use Rattle.map_mend.proofs.Laws.{mend_tests, is_formed}
use Rattle.map_mend.proofs.Halfway.{halfway_begun, old_entry, list_room, map_room, again, ended}
use Rattle.map_mend.proofs.mend_entries.Goals as goal

pub loop-address-init : goal.loop-address-init
loop-address-init c = halfway_begun _ _ (is_formed _ _ c.requires) (mend_tests _ _ c.requires).fits

pub put_listed-length-requires : goal.put_listed-length-requires
put_listed-length-requires c =
    let m = c.args.map.now in
    let turn = c.loop-address in
    let form : Formed m = is_formed _ _ c.requires in
    let inside : turn.address < count_of m = omega (arith, c.loop-address-test.true, c.count-n.ensures) in
    let old : c.entry_at-old.result ≡ register_at m turn.address =
    c.entry_at-old.ensures ∙ old_entry _ _ form _ _ _ _ turn.invariant _ c.count-n.ensures inside in
    (omega (arith, inside, form.most), rw old (list_room _ _ form _ _ _ _ turn.invariant inside))

pub put_entry-requires : goal.put_entry-requires
put_entry-requires c =
    let form : Formed c.args.map.now = is_formed _ _ c.requires in
    let inside : c.loop-address.address < count_of c.args.map.now = omega (arith, c.loop-address-test.true, c.count-n.ensures) in
    (omega (arith, inside, form.most), map_room _ _ form _ _ _ _ c.loop-address.invariant inside)

pub loop-address-preserved : goal.loop-address-preserved
loop-address-preserved c =
    let m = c.args.map.now in
    let turn = c.loop-address in
    let form : Formed m = is_formed _ _ c.requires in
    let inside : turn.address < count_of m = omega (arith, c.loop-address-test.true, c.count-n.ensures) in
    let old : c.entry_at-old.result ≡ register_at m turn.address =
    c.entry_at-old.ensures ∙ old_entry _ _ form _ _ _ _ turn.invariant _ c.count-n.ensures inside in
    again _ _ form _ _ _ _ turn.invariant _ _ _ _ inside
    (c.mended-new.ensures ∙ ap (mended_at turn.address) old)
    (rw old at c.put_listed-length.ensures)
    c.put_entry.ensures

pub returns : goal.returns
returns c =
    ended _ _ (is_formed _ _ c.requires) _ _ _ _ c.loop-address.invariant (omega (arith, c.loop-address-test.false, c.count-n.ensures))
