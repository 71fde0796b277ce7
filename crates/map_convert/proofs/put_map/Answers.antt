-- `put_map` meets its contract: a map of the wished version is copied whole, and of another the entries are put behind the new head.
use mathlib.Core.Path.{◌≡◌, sym, ◌∙◌}
use mathlib.Core.Bool.{true, false}
use native.Mathlib.Omega.{arith}
use borrow.Author.Tests.{eq-eqb, ne_eqb}
use lib.ListN.{length, length-drop}
use lib.Dec.{eqb}
use Rattle.base_bits.proofs.Putting.{put_both}
use Rattle.base_chip.specs.declared.Chip.TheVariants.{Newer}
use Rattle.map_format.specs.Format.{version_of}
use Rattle.map_test.proofs.Laws.{good_form, good_count}
use Rattle.map_convert.specs.Convert.{converted_to}
use Rattle.map_convert.proofs.Laws.{ConvertTests, convert_tests, length_head, length_converted}
use Rattle.map_convert.proofs.put_map.Goals as goal

pub put_rest-requires : goal.put_rest-requires
unfolding converted_to
put_rest-requires c =
    let tests : ConvertTests c.args.wished c.args.map.now (length c.args.out.now) =
    convert_tests _ _ _ c.requires in
    let is_wished : let a = c.args in eqb (version_of a.map.now) a.wished ≡ true =
    eq-eqb _ _ (sym c.version.ensures ∙ c.if-version-wished.true) in
    let room = rw is_wished at tests.enough in
    (omega arith, omega (arith, room))

pub returns-then-version-wished : goal.returns-then-version-wished
unfolding converted_to
returns-then-version-wished c =
    let is_wished : let a = c.args in eqb (version_of a.map.now) a.wished ≡ true =
    eq-eqb _ _ (sym c.version.ensures ∙ c.if-version-wished.true) in
    rw is_wished c.put_rest.ensures

pub put_head-n-requires : goal.put_head-n-requires
put_head-n-requires c =
    let t : ConvertTests c.args.wished c.args.map.now (length c.args.out.now) = convert_tests _ _ _ c.requires in
    let e = c.count.ensures in (
      omega (arith, e, (good_count Newer _ t.good).1),
      omega (arith, length_head c.args.wished c.count.result, length_converted c.args.wished _ t.good, t.enough),
    )

pub put_rest-requires-2 : goal.put_rest-requires-2
put_rest-requires-2 c =
    let m = c.args.map.now in
    let t : ConvertTests c.args.wished c.args.map.now (length c.args.out.now) = convert_tests _ _ _ c.requires in
    let n = c.count.result in
    let e = c.head.ensures in (
      omega (arith, e, good_form Newer m t.good),
      omega (
        arith,
        e,
        good_form Newer m t.good,
        length-drop c.head.result m,
        c.put_head-n.ensures.next_place,
        length_head
            c.args.wished n,
        length_converted c.args.wished m t.good,
        t.enough,
        c.put_head-n.auto,
      ),
    )

pub returns : goal.returns
unfolding converted_to
returns c =
    let is_other : let a = c.args in eqb (version_of a.map.now) a.wished ≡ false =
    ne_eqb _ _ (λ e. c.if-version-wished.false (c.version.ensures ∙ e)) in
    rw (is_other, ← c.count.ensures, ← c.head.ensures)
    (put_both c.put_head-n.ensures c.put_rest-2.ensures)
