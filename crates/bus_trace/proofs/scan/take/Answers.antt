-- `take` meets its contract: sixteen samples of eight bits each time, up to the last seven before the last bit; and then word by word.
use Prim.Native.Nat.{◌+◌}
use mathlib.Core.Path.{refl, sym, ◌∙◌}
use native.Mathlib.Omega.{arith}
use Rattle.bus_trace.specs.Scan.{progress}
use Rattle.bus_trace.proofs.Dense.{word_nibble_lt, four_more, three_more}
use Rattle.bus_trace.proofs.Onward.{Going}
use Rattle.bus_trace.proofs.scan.take.Goals as goal

pub with_three-requires : goal.with_three-requires
with_three-requires c =
    let half : Going c.args.samples.now c.args.piece.line c.args.piece.lsb_first c.args.piece.last c.args.from (progress 2 (c.loop-p.p.bits + 4) c.with_four-value.result (c.loop-p.p.at + 8)) =
    four_more (λ k. (c.type_inv.samples k).fits) c.args.piece.wired c.loop-p.invariant (omega (arith, c.loop-p-test.true, c.loop-p.invariant.standing.within))
    c.word_at-first.ensures (sym c.levels.ensures ∙ c.if-levels-ne-DENSE.false)
    c.four_bits.ensures (omega (arith, c.if-piece-p.false)) c.with_four-value.ensures refl refl in
    let s = half.standing in (
      s.small,
      omega (arith, c.if-piece-p.false, s.short),
      word_nibble_lt _ c.word_at-second.result c.args.piece.line c.four_bits-more.ensures,
    )

pub returns-then-p-piece : goal.returns-then-p-piece
returns-then-p-piece c =
    let half : Going c.args.samples.now c.args.piece.line c.args.piece.lsb_first c.args.piece.last c.args.from (progress 2 (c.loop-p.p.bits + 4) c.with_four-value.result (c.loop-p.p.at + 8)) =
    four_more (λ k. (c.type_inv.samples k).fits) c.args.piece.wired c.loop-p.invariant (omega (arith, c.loop-p-test.true, c.loop-p.invariant.standing.within))
    c.word_at-first.ensures (sym c.levels.ensures ∙ c.if-levels-ne-DENSE.false)
    c.four_bits.ensures (omega (arith, c.if-piece-p.false)) c.with_four-value.ensures refl refl in
    three_more (λ k. (c.type_inv.samples k).fits) c.args.piece.wired half (omega (arith, c.loop-p-test.true, c.loop-p.invariant.standing.within))
    c.word_at-second.ensures (sym c.levels-in-loop-p.ensures ∙ c.if-levels-ne-DENSE-2.false) c.four_bits-more.ensures
    (omega (arith, c.if-p-piece.true)) c.with_three.ensures (omega arith)

pub with_four-requires : goal.with_four-requires
with_four-requires c =
    let half : Going c.args.samples.now c.args.piece.line c.args.piece.lsb_first c.args.piece.last c.args.from (progress 2 (c.loop-p.p.bits + 4) c.with_four-value.result (c.loop-p.p.at + 8)) =
    four_more (λ k. (c.type_inv.samples k).fits) c.args.piece.wired c.loop-p.invariant (omega (arith, c.loop-p-test.true, c.loop-p.invariant.standing.within))
    c.word_at-first.ensures (sym c.levels.ensures ∙ c.if-levels-ne-DENSE.false)
    c.four_bits.ensures (omega (arith, c.if-piece-p.false)) c.with_four-value.ensures refl refl in
    let s = half.standing in (
      s.small,
      omega (arith, c.if-piece-p.false, s.short),
      word_nibble_lt _ c.word_at-second.result c.args.piece.line c.four_bits-more.ensures,
    )

pub loop-p-preserved : goal.loop-p-preserved
loop-p-preserved c =
    let half : Going c.args.samples.now c.args.piece.line c.args.piece.lsb_first c.args.piece.last c.args.from (progress 2 (c.loop-p.p.bits + 4) c.with_four-value.result (c.loop-p.p.at + 8)) =
    four_more (λ k. (c.type_inv.samples k).fits) c.args.piece.wired c.loop-p.invariant (omega (arith, c.loop-p-test.true, c.loop-p.invariant.standing.within))
    c.word_at-first.ensures (sym c.levels.ensures ∙ c.if-levels-ne-DENSE.false)
    c.four_bits.ensures (omega (arith, c.if-piece-p.false)) c.with_four-value.ensures refl refl in
    four_more (λ k. (c.type_inv.samples k).fits) c.args.piece.wired half (omega (arith, c.loop-p-test.true, c.loop-p.invariant.standing.within))
    c.word_at-second.ensures (sym c.levels-in-loop-p.ensures ∙ c.if-levels-ne-DENSE-2.false) c.four_bits-more.ensures
    (omega (arith, c.if-piece-p.false, c.if-p-piece.false)) c.with_four.ensures (omega arith) (omega arith)
