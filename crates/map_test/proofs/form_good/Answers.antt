-- `form_good` meets its contract: its tests are those of the form, in their order. Two bytes bound a word, so that no sum wraps.
use mathlib.Core.Path.{◌≡◌}
use mathlib.Core.Bool.{true}
use Prim.Native.Nat.{◌<◌, ◌^◌}
use native.Mathlib.Omega.{arith}
use borrow.Author.Tests.{lt-leb, le-leb}
use lib.ListN.{length}
use Rattle.std.proofs.Common.{rules}
use Rattle.base_bits.proofs.Cases.{joined_every}
use Rattle.map_format.specs.Format.{length_of, head_size}
use Rattle.map_format.proofs.Laws.{count_fits, head_bounds}
use Rattle.map_test.specs.MapTest.{form_tests}
use Rattle.map_test.proofs.form_good.Goals as goal

pub returns-then-map-lt-HEAD_SIZE : goal.returns-then-map-lt-HEAD_SIZE
returns-then-map-lt-HEAD_SIZE c =
    let m = c.args.map.now in
    let short = lt-leb head_size (length m) c.if-map-lt-HEAD_SIZE.true in
    rw short (rw short at (joined_every true (form_tests m)))

pub overflow_mul-size : goal.overflow_mul-size
overflow_mul-size c =
    let small : c.count-n.result < 2 ^ 16 =
    rw c.count-n.ensures (count_fits c.args.map.now (λ i. (c.type_inv.map i).fits)) in
    omega (arith, small)

pub overflow_add-size : goal.overflow_add-size
overflow_add-size c =
    let small : c.count-n.result < 2 ^ 16 =
    rw c.count-n.ensures (count_fits c.args.map.now (λ i. (c.type_inv.map i).fits)) in
    omega (arith, small, c.head.ensures, head_bounds c.args.map.now)

pub returns : goal.returns
returns c =
    let m = c.args.map.now in
    let long = le-leb head_size (length m) (omega arith) in
    let length_read : c.from_be_bytes-length.result ≡ length_of m = search rules in
    rw (c.count-n.ensures, c.head.ensures, c.flags.ensures, length_read, long) (rw long at (joined_every true (form_tests m)))
