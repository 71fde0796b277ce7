-- `read_map` meets its contract: where a map ends, with a byte more, is within the buffer.
use native.Mathlib.Omega.{arith}
use Prim.Native.Nat.{◌+◌, ◌≤◌}
use Rattle.text_recording.specs.Sizes.{map_space}
use Rattle.text_recording.proofs.Laws.{within_more, map_end_bounds}
use Rattle.text_recording.proofs.input.read_map.Goals as goal

pub overflow_add-end : goal.overflow_add-end
overflow_add-end g c = omega (arith, map_end_bounds _ c.map_end-end.ensures)

pub fill-requires-then-own : goal.fill-requires-then-own
fill-requires-then-own g c = omega (arith, map_end_bounds _ c.map_end-end.ensures)

pub returns-then-own : goal.returns-then-own
returns-then-own g c =
    let end = c.map_end-end in
    let room : end.result + 1 ≤ map_space = omega (arith, map_end_bounds _ end.ensures) in
    within_more _ room c.fill-then-own.ensures

pub fill-requires-2 : goal.fill-requires-2
fill-requires-2 g c = omega (arith, map_end_bounds _ c.map_end-end.ensures)

pub returns : goal.returns
returns g c =
    let end = c.map_end-end in
    let room : end.result ≤ map_space = omega (arith, map_end_bounds _ end.ensures) in
    within_more _ room c.fill-2.ensures
