-- `with_three` meets its contract: as `with_four`, with the first three of the four bits.
use Prim.Native.Nat.{ℕ, ◌+◌, ◌*◌, ◌%◌, ◌^◌, ◌<◌}
use mathlib.Core.Path.{sym, ◌∙◌, ap}
use mathlib.Core.Bool.{Bool}
use native.Mathlib.Omega.{arith}
use lib.Pow.{shl_exact}
use Rattle.base_card.specs.Card.{turned}
use Rattle.bus_trace.specs.Scan.{shifted_three}
use Rattle.bus_trace.proofs.Dense.{low_three, turned_lt, above_fits, value_lt}
use Rattle.bus_trace.proofs.scan.with_three.Goals as goal

pub overflow_add-result : goal.overflow_add-result
overflow_add-result c =
    let small : c.turn.result % 8 < 16 =
    omega (arith, c.turn.ensures, turned_lt c.args.more c.requires.2) in
    rw (shl_exact 4 c.args.bits 16 small (omega (arith, c.requires.1)))
    (record { fits = above_fits (c.turn.result % 8) c.args.value c.args.bits small c.requires.0 c.requires.1 })

pub returns-then-lsb_first : goal.returns-then-lsb_first
returns-then-lsb_first c =
    let small : c.turn.result % 8 < 16 =
    omega (arith, c.turn.ensures, turned_lt c.args.more c.requires.2) in
    λ w x y z e.
    ap (λ (k : ℕ). c.args.value + k) (shl_exact 4 c.args.bits 16 small (omega (arith, c.requires.1)))
    ∙ ap (λ (k : ℕ). c.args.value + k % 8 * 2 ^ c.args.bits) (c.turn.ensures ∙ ap (λ (k : ℕ). turned 8 (k * 16)) e)
    ∙ low_three c.args.value c.args.bits w x y z
    ∙ ap (λ (l : Bool). shifted_three l c.args.value c.args.bits w x y) (sym c.if-lsb_first.true)

pub overflow_mul-result : goal.overflow_mul-result
overflow_mul-result c = omega (arith, value_lt c.args.value c.args.bits c.requires.0 c.requires.1)

pub overflow_add-result-2 : goal.overflow_add-result-2
overflow_add-result-2 c = omega (arith, value_lt c.args.value c.args.bits c.requires.0 c.requires.1, c.requires.2)
