-- `put_head` meets its contract: the head is the first bytes of one with a flag byte, and they are copied to the start.
use mathlib.Core.Path.{◌≡◌, ◌∙◌, sym}
use Prim.Native.Nat.{◌/◌, ◌%◌, ◌^◌, ◌<◌, ◌≤◌}
use native.Mathlib.Omega.{arith}
use lib.ListN.{length, get_or}
use Rattle.std.proofs.lemmas.List.{length-take-le}
use Rattle.map_format.proofs.Laws.{head_size_bounds}
use Rattle.map_convert.specs.Convert.{length_in}
use Rattle.map_format.proofs.Parts.{put_start}
use Rattle.map_convert.proofs.Laws.{length_head, head_taken}
use Rattle.map_convert.proofs.put_head.Goals as goal

pub slice_bounds-copy_from_slice-end : goal.slice_bounds-copy_from_slice-end
slice_bounds-copy_from_slice-end c = omega (arith, c.requires.1, length_head c.args.wished c.args.n, c.head_size-size.ensures)

pub slice_bounds-copy_from_slice-end-2 : goal.slice_bounds-copy_from_slice-end-2
slice_bounds-copy_from_slice-end-2 c =
    let room : c.head_size-size.result ≤ length c.args.out.now =
    omega (arith, c.requires.1, length_head c.args.wished c.args.n, c.head_size-size.ensures) in
    rw length-take-le

pub copy_from_slice-requires : goal.copy_from_slice-requires
copy_from_slice-requires c =
    let size : c.head_size-size.result ≤ 6 = omega (arith, c.head_size-size.ensures, head_size_bounds c.args.wished) in
    let room : c.head_size-size.result ≤ length c.args.out.now =
    omega (arith, c.requires.1, length_head c.args.wished c.args.n, c.head_size-size.ensures) in
    rw (length-take-le, length-take-le)

pub returns : goal.returns
returns c =
    let a = c.args in
    let l = length_in a.wished a.n in
    let size = c.head_size-size.ensures in
    let small : l < 2 ^ 16 = omega (arith, c.requires.0, head_size_bounds a.wished) in
    let e0 : get_or c.to_be_bytes.result 0 0 ≡ l / 256 = rw (c.to_be_bytes.ensures, size) (omega (arith, small)) in
    let e1 : get_or c.to_be_bytes.result 1 0 ≡ l % 256 = rw (c.to_be_bytes.ensures, size) in
    let e2 : get_or c.to_be_bytes-2.result 0 0 ≡ a.n / 256 = rw c.to_be_bytes-2.ensures (omega (arith, c.requires.0)) in
    let e3 : get_or c.to_be_bytes-2.result 1 0 ≡ a.n % 256 = rw c.to_be_bytes-2.ensures in
    put_start (c.copy_from_slice.ensures.after ∙ rw (e0, e1, e2, e3, size) (head_taken a.wished a.n)) c.requires.1
    (size ∙ sym (length_head a.wished a.n))
