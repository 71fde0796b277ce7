-- `transfer` meets its contract: the loop gives each byte as the transfer makes it, and the rest is the transfer from there on.
use borrow.Author.Tests.{eq-eqb, ne_eqb}
use Prim.Native.Nat.{ℕ, ◌<◌}
use native.Mathlib.Omega.{arith}
use lib.ListN.{length}
use mathlib.Core.Path.{◌≡◌, refl, sym, ◌∙◌, ap}
use mathlib.Core.List.{List}
use Rattle.base_bits.proofs.Cases.{yes, no}
use Rattle.map_format.specs.Format.{register_at}
use Rattle.reg_banks.specs.Banks.{banks, transferred}
use Rattle.reg_banks.proofs.Filling.{stored, kept, ended}
use Rattle.reg_banks.proofs.Laws.{transfer_rule}
use Rattle.reg_banks.proofs.banks.transfer.Goals as goal
use Rattle.reg_banks.proofs.banks.transfer.Goals.{then-entry_at-eq-BUFFERED, else-entry_at-eq-BUFFERED}

pub loop-i-preserved : goal.loop-i-preserved
loop-i-preserved c =
    let e : (register_at c.args.map.now c.loop-i.i).kind ≡ c.entry_at.result.kind =
    rw (c.entry_at.ensures, c.count-count.ensures) in
    let inv = c.loop-i.invariant in
    let below : c.loop-i.i < length c.loop-i.active = omega (arith, inv.same, c.requires.active_size, c.count-count.ensures, c.loop-i-test.true) in
    elim c.if-entry_at-eq-BUFFERED.branch [
      | then-entry_at-eq-BUFFERED w ↦ rw w.active-is (stored (transfer_rule _ _) inv _ below (yes _ (eq-eqb _ _ (e ∙ w.if-entry_at-eq-BUFFERED.true)) refl))
      | else-entry_at-eq-BUFFERED w ↦ rw w.active-is (kept (transfer_rule _ _) inv below (no _ (ne_eqb _ _ (λ q. w.if-entry_at-eq-BUFFERED.false (sym e ∙ q))) refl))
    ]

pub returns : goal.returns
unfolding transferred
returns c =
    let inv = c.loop-i.invariant in
    ap (λ (l : List ℕ). banks l c.args.buffer.now) (ended (transfer_rule _ _) inv (omega (arith, inv.same, c.requires.active_size, c.count-count.ensures, c.loop-i-test.false)))
