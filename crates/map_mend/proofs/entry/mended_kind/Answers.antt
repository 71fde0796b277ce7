-- `mended_kind` meets its contract: each arm is an arm of the definition.
use mathlib.Core.Path.{refl, sym, ◌∙◌}
use borrow.Author.Tests.{eq-eqb, ne_eqb, le-leb, lt-leb}
use Rattle.base_bits.proofs.Cases.{yes, no}
use Rattle.map_test.specs.MapTest.{free}
use Rattle.map_mend.specs.Entry.{mended_kind}
use Rattle.map_mend.proofs.entry.mended_kind.Goals as goal

pub returns-then-kind-le-BUFFERED : goal.returns-then-kind-le-BUFFERED
unfolding mended_kind
returns-then-kind-le-BUFFERED c =
    yes _ (eq-eqb _ free (sym c.place_kind-place.ensures ∙ c.if-place-eq-FREE.true)) (yes _ (le-leb _ _ c.if-kind-le-BUFFERED.true) refl)

pub returns-then-place-eq-FREE : goal.returns-then-place-eq-FREE
unfolding mended_kind
returns-then-place-eq-FREE c =
    yes _ (eq-eqb _ free (sym c.place_kind-place.ensures ∙ c.if-place-eq-FREE.true)) (no _ (lt-leb _ _ c.if-kind-le-BUFFERED.false) refl)

pub returns : goal.returns
unfolding mended_kind
returns c =
    let e = c.place_kind-place.ensures in
    no _ (ne_eqb _ free (λ h. c.if-place-eq-FREE.false (e ∙ h))) e
