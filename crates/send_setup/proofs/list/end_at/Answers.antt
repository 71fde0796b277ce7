-- `end_at` meets its contract: the tests are read where the order stands.
use mathlib.Core.Path.{refl, sym, ◌∙◌}
use Prim.Native.Nat.{◌+◌}
use native.Mathlib.Omega.{arith}
use borrow.Author.Tests.{eq-eqb, ne_eqb}
use Rattle.base_bits.proofs.Cases.{yes, no}
use Rattle.send_setup.proofs.Places.{tests_here, too_short}
use Rattle.send_setup.proofs.list.end_at.Goals as goal

pub returns-then-left-eq0 : goal.returns-then-left-eq0
returns-then-left-eq0 c = yes _ (eq-eqb _ _ c.if-left-eq0.true) refl

pub returns-then-list-at-lt-LEAST_SIZE : goal.returns-then-list-at-lt-LEAST_SIZE
returns-then-list-at-lt-LEAST_SIZE c =
    no _ (ne_eqb _ _ c.if-left-eq0.false) (no _ (sym (too_short c.args.list.now c.args.at (omega (arith, c.if-list-at-lt-LEAST_SIZE.true)))) refl)

pub overflow_add-end-2 : goal.overflow_add-end-2
overflow_add-end-2 c =
    let byte = c.type_inv.list in
    omega (arith, c.word_at-size.ensures, byte c.args.at, byte (c.args.at + 1), c.if-list-at-lt-LEAST_SIZE.false, c.well_formed)

pub returns-then-size-end : goal.returns-then-size-end
returns-then-size-end c =
    let w = c.word_at-size.ensures in
    no _ (ne_eqb _ _ c.if-left-eq0.false)
    (yes _ (sym (tests_here c.args.list.now c.args.at) ∙ rw w at c.if-size-end.true) (rw w))

pub returns : goal.returns
returns c =
    let w = c.word_at-size.ensures in
    no _ (ne_eqb _ _ c.if-left-eq0.false)
    (no _ (sym (tests_here c.args.list.now c.args.at) ∙ rw w at c.if-size-end.false) refl)
