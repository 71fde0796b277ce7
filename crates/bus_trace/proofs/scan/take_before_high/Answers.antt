-- `take_before_high` meets its contract: the rises before CSB is high, and then no sample more.
use mathlib.Core.Path.{◌≡◌, ◌∙◌, ap}
use native.Mathlib.Omega.{arith}
use Rattle.bus_words.specs.Lanes.{highs_in, lows_in, level_in}
use Rattle.bus_words.proofs.Lanes.{lows_le, lows_full}
use Rattle.bus_trace.proofs.Onward.{going_begun}
use Rattle.bus_trace.proofs.Lanes.{took_rise, took_before_high}
use Rattle.bus_trace.proofs.scan.take_before_high.Goals as goal

pub returns-then-b-ne0 : goal.returns-then-b-ne0
returns-then-b-ne0 c =
    took_rise (λ k. (c.type_inv.samples k).fits) (going_begun c.requires.0)
    c.requires.1 c.bits_at-b.ensures c.if-b-ne0.true _ c.lane.ensures

pub level_at-requires : goal.level_at-requires
level_at-requires c =
    let full : lows_in 8 c.args.word ≡ 8 → ⊥ = λ (z : lows_in 8 c.args.word ≡ 8). absurd (omega (arith, lows_full 8 c.args.word z, c.requires.3)) in
    (c.requires.0.level, omega (arith, c.lows-stop.ensures, full, lows_le 8 c.args.word))

pub overflow_add-result-2 : goal.overflow_add-result-2
overflow_add-result-2 c =
    omega (arith, c.lows-stop.ensures, lows_le 8 c.args.word, c.requires.1, c.well_formed)

pub returns : goal.returns
returns c =
    let w = c.requires.2 in
    took_before_high (λ k. (c.type_inv.samples k).fits)
    (going_begun c.requires.0) c.requires.1 c.bits_at-b.ensures
    c.if-b-ne0.false (λ z. omega (arith, c.requires.3, ap (highs_in 8) w, z)) _ _ (c.lows-stop.ensures ∙ ap (lows_in 8) w)
    (c.level_at.ensures ∙ ap (level_in c.lows-stop.result c.args.from.level) w)
