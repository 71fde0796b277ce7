-- `end_frame` meets its contract: a transfer, or nothing.
use mathlib.Core.Path.{◌≡◌, refl, sym, ◌∙◌}
use mathlib.Core.Bool.{Bool, true, false}
use mathlib.Core.List.{List}
use Prim.Native.Nat.{ℕ}
use Rattle.base_chip.specs.declared.Chip.{Chip}
use Rattle.reg_banks.specs.Banks.{Banks, transferred}
use Rattle.reg_write.specs.Rise.{moves_at_rise, rise_banks}
use Rattle.reg_write.proofs.rise.end_frame.Goals as goal

-- what the end of a frame leaves, by how the two tests come out
module _ (k : Chip) (m : List ℕ) (armed : Bool) (b : Banks) where
  moved : {after : Banks} → armed ≡ true → moves_at_rise k m ≡ true → after ≡ transferred m b → after ≡ rise_banks k m armed b
  unfolding rise_banks
  moved p q e = rw (p, q) e

  stays : armed ≡ true → moves_at_rise k m ≡ false → b ≡ rise_banks k m armed b
  unfolding rise_banks
  stays p q = rw (p, q) refl

  unarmed : armed ≡ false → b ≡ rise_banks k m armed b
  unfolding rise_banks
  unarmed p = rw p refl

pub returns-then-moves_at_rise : goal.returns-then-moves_at_rise
returns-then-moves_at_rise c =
    let moves = sym c.moves_at_rise.ensures ∙ c.if-moves_at_rise.true in
    moved _ _ _ _ c.if-armed.true moves c.transfer.ensures

pub returns-else-moves_at_rise : goal.returns-else-moves_at_rise
returns-else-moves_at_rise c = stays _ _ _ _ c.if-armed.true (sym c.moves_at_rise.ensures ∙ c.if-moves_at_rise.false)

pub returns-else-armed : goal.returns-else-armed
returns-else-armed c = unarmed _ _ _ _ c.if-armed.false
