-- `check` meets its contract: each test is one of the number's, in their order. A good map has the size that its version and n give.
use mathlib.Core.Path.{◌≡◌, refl, sym}
use Prim.Native.Nat.{◌+◌, ◌*◌, ◌≤◌}
use native.Mathlib.Omega.{arith}
use borrow.Author.Tests.{eq-eqb, lt-leb, le-leb}
use lib.ListN.{length}
use Rattle.std.proofs.lemmas.Result.{err_from_is_err_and}
use Rattle.base_bits.proofs.Cases.{yes, no}
use Rattle.base_chip.specs.declared.Chip.TheVariants.{Newer}
use Rattle.map_format.specs.Format.{most_count}
use Rattle.map_format.proofs.Laws.{head_size_bounds}
use Rattle.map_test.specs.MapTest.{map_number}
use Rattle.map_test.proofs.Laws.{good_count, refused_by}
use Rattle.map_convert.specs.Convert.{converted_to, convert_number}
use Rattle.map_convert.proofs.Laws.{length_converted}
use Rattle.map_convert.proofs.check.Goals as goal

pub returns-in_err-map_test : goal.returns-in_err-map_test
unfolding convert_number
returns-in_err-map_test c =
    let refused = c.in_err-map_test.ensures in
    let given = err_from_is_err_and c.from_residual.result c.from_residual.ensures.1 in
    rw (given.1, given.2) (no _ (refused_by _ _ refused) refused)

pub returns-then-not-flags_kept : goal.returns-then-not-flags_kept
unfolding convert_number
returns-then-not-flags_kept c =
    yes _ (eq-eqb _ 0 (sym c.in_ok-map_test.ensures)) (no _ (rw c.flags.ensures at c.if-not-flags_kept.true) refl)

pub overflow_mul-count : goal.overflow_mul-count
overflow_mul-count c =
    let few : c.count.result ≤ most_count =
    omega (arith, c.count.ensures, (good_count Newer _ (sym c.in_ok-map_test.ensures)).1) in
    omega (arith, few)

pub overflow_add-head_size : goal.overflow_add-head_size
overflow_add-head_size c =
    let few : c.count.result ≤ most_count =
    omega (arith, c.count.ensures, (good_count Newer _ (sym c.in_ok-map_test.ensures)).1) in
    omega (arith, few, c.head_size.ensures, head_size_bounds c.args.wished)

pub returns-then-room-head_size : goal.returns-then-room-head_size
unfolding convert_number
returns-then-room-head_size c =
    let a = c.args in
    let good : map_number Newer a.map.now ≡ 0 = sym c.in_ok-map_test.ensures in
    let size : length (converted_to a.wished a.map.now) ≡ c.head_size.result + 3 * c.count.result =
    omega (arith, length_converted a.wished a.map.now good, c.head_size.ensures, c.count.ensures) in
    let small = lt-leb (length (converted_to a.wished a.map.now)) a.room (omega (arith, size, c.if-room-head_size.true)) in
    yes _ (eq-eqb _ 0 good) (yes _ (rw c.flags.ensures at c.if-not-flags_kept.false) (no _ small refl))

pub returns : goal.returns
unfolding convert_number
returns c =
    let a = c.args in
    let good : map_number Newer a.map.now ≡ 0 = sym c.in_ok-map_test.ensures in
    let size : length (converted_to a.wished a.map.now) ≡ c.head_size.result + 3 * c.count.result =
    omega (arith, length_converted a.wished a.map.now good, c.head_size.ensures, c.count.ensures) in
    let enough = le-leb (length (converted_to a.wished a.map.now)) a.room (omega (arith, size, c.if-room-head_size.false)) in
    yes _ (eq-eqb _ 0 good) (yes _ (rw c.flags.ensures at c.if-not-flags_kept.false) (yes _ enough refl))
