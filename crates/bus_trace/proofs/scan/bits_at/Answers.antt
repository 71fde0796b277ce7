-- `bits_at` meets its contract: each turn passes the samples up to the lowest rise that is left, and takes its bit.
use Prim.Native.Nat.{ℕ, ◌+◌}
use mathlib.Core.Path.{ap, ◌∙◌}
use mathlib.Core.Bool.{Bool}
use native.Mathlib.Omega.{arith}
use lib.ListN.{get_or}
use Rattle.base_bits.specs.Bits.{bit_at, shifted_in}
use Rattle.bus_trace.proofs.Lanes.{gathered_begun, next_rise, gathered_more}
use Rattle.bus_trace.proofs.scan.bits_at.Goals as goal

pub loop-rising-init : goal.loop-rising-init
loop-rising-init c = λ l s m. gathered_begun _ s m

pub loop-rising-preserved : goal.loop-rising-preserved
loop-rising-preserved c =
    λ l s m.
    let g = c.loop-rising.invariant l s m in
    let f =
    next_rise (λ k. (c.type_inv.samples k).fits)
    m.room g c.loop-rising-test.true in
    let e = c.lane.ensures ∙ f.zeros in
    let b = c.bit_at.ensures ∙ ap (λ (k : ℕ). bit_at (get_or c.args.samples.now (c.args.from.at + k) 0) c.args.piece.line) e in
    let v =
    c.shift_in-value.ensures ∙ ap (λ (b : Bool). shifted_in c.args.piece.lsb_first c.loop-rising.value
    c.loop-rising.bits b) b in
    let few = c.if-bits-piece.false in
    rw v (gathered_more (λ k. (c.type_inv.samples k).fits)
    m.room g f (omega (arith, few, g.standing.few)))
