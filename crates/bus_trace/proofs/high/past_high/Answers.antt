-- `past_high` meets its contract: a word is passed if none of its samples has CSB low, and else up to the first that has.
use Prim.Native.Nat.{ℕ, ◌-◌, ◌<◌}
use mathlib.Core.Path.{◌≡◌, sym, ◌∙◌, ap}
use native.Mathlib.Omega.{arith}
use Rattle.bus_words.specs.Lanes.{highs_in, lows_in, level_in}
use Rattle.bus_trace.proofs.Resting.{resting_begun, resting_level, resting_word, fall_inside, rested_word, rested_join}
use Rattle.bus_trace.proofs.high.past_high.Goals as goal

-- the samples of a word with CSB low
lows_are : (w v h : ℕ) → w ≡ v → h ≡ highs_in 8 (18446744073709551615 - w) → (h ≡ 0 → ⊥) → highs_in 8 (18446744073709551615 - v) ≡ 0 → ⊥
lows_are w v h e eh some z = some (eh ∙ ap (λ (x : ℕ). highs_in 8 (18446744073709551615 - x)) e ∙ z)

pub loop-at-init : goal.loop-at-init
loop-at-init c = resting_begun _ _ c.requires.1

pub overflow_add-result : goal.overflow_add-result
overflow_add-result c =
    let w = c.word_at-word.ensures in
    let some = lows_are _ _ _ w c.highs.ensures c.if-highs-ne0.true in
    let first = fall_inside c.loop-at.invariant (λ k. (c.type_inv.samples k).fits) (omega (arith, c.loop-at-test.true, c.loop-at.invariant.high.within)) some in
    let inside : c.lows-stop.result < 8 = omega (arith, first, c.lows-stop.ensures ∙ ap (λ (x : ℕ). lows_in 8 (18446744073709551615 - x)) w) in
    omega (arith, inside, c.loop-at-test.true, c.loop-at.invariant.high.within, c.well_formed)

pub level_at-requires : goal.level_at-requires
level_at-requires c =
    let w = c.word_at-word.ensures in
    let some = lows_are _ _ _ w c.highs.ensures c.if-highs-ne0.true in
    let first = fall_inside c.loop-at.invariant (λ k. (c.type_inv.samples k).fits) (omega (arith, c.loop-at-test.true, c.loop-at.invariant.high.within)) some in
    let inside : c.lows-stop.result < 8 = omega (arith, first, c.lows-stop.ensures ∙ ap (λ (x : ℕ). lows_in 8 (18446744073709551615 - x)) w) in
    (resting_level c.loop-at.invariant c.requires.0, omega (arith, inside))

pub returns-then-highs-ne0 : goal.returns-then-highs-ne0
returns-then-highs-ne0 c =
    let w = c.word_at-word.ensures in
    rested_word c.loop-at.invariant (λ k. (c.type_inv.samples k).fits) (omega (arith, c.loop-at-test.true, c.loop-at.invariant.high.within))
    (lows_are _ _ _ w c.highs.ensures c.if-highs-ne0.true)
    _ _ (c.lows-stop.ensures ∙ ap (λ (x : ℕ). lows_in 8 (18446744073709551615 - x)) w)
    (c.level_at.ensures ∙ ap (level_in c.lows-stop.result c.loop-at.sclk) w)

pub loop-at-preserved : goal.loop-at-preserved
loop-at-preserved c =
    resting_word c.loop-at.invariant (λ k. (c.type_inv.samples k).fits) (omega (arith, c.loop-at-test.true, c.loop-at.invariant.high.within))
    (ap (λ (x : ℕ). highs_in 8 (18446744073709551615 - x)) (sym c.word_at-word.ensures) ∙ sym c.highs.ensures ∙ c.if-highs-ne0.false)

pub past_each-requires : goal.past_each-requires
past_each-requires c = let r = c.loop-at.invariant in (resting_level r c.requires.0, r.high.within)

pub returns : goal.returns
returns c = rested_join c.loop-at.invariant c.past_each.ensures
