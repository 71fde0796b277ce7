-- `rises` meets its contract: SCLK now and not before, in each lane; and then the lanes before CSB is high.
use Prim.Native.Nat.{ℕ, ◌-◌}
use mathlib.Core.Path.{◌≡◌, sym, ap, ap₂, ◌∙◌}
use lib.Bits.{bit_and}
use Rattle.bus_words.specs.Lanes.{highs_in, rises_in}
use Rattle.bus_words.proofs.Lanes.{highs_mask, lows_all, rises_mask, rises_cut}
use Rattle.bus_words.proofs.rises.Goals as goal

pub returns-then-high-eq0 : goal.returns-then-high-eq0
returns-then-high-eq0 c =
    let a = c.args in
    let all = lows_all 8 a.word (sym (highs_mask 8 a.word) ∙ c.if-high-eq0.true) in
    rises_mask a.level a.word c.requires ∙ ap (λ (k : ℕ). rises_in k a.level a.word) (sym all)

pub returns : goal.returns
returns c =
    let a = c.args in
    let some : highs_in 8 a.word ≡ 0 → ⊥ = λ (z : highs_in 8 a.word ≡ 0). c.if-high-eq0.false (highs_mask 8 a.word ∙ z) in
    ap₂ (λ (m n : ℕ). bit_and m (n - 1)) (rises_mask a.level a.word c.requires) (highs_mask 8 a.word)
    ∙ rises_cut 8 a.level a.word c.requires some
