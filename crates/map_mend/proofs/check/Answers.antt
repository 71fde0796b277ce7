-- `check` meets its contract: each test is one of the number's, in their order.
use mathlib.Core.Path.{refl, sym, ◌∙◌}
use native.Mathlib.Omega.{arith}
use borrow.Author.Tests.{lt-leb, le-leb}
use lib.ListN.{length}
use Rattle.base_bits.proofs.Cases.{yes, no}
use Rattle.map_test.proofs.Laws.{formed}
use Rattle.map_mend.specs.Mend.{altered_of, mend_number}
use Rattle.map_mend.proofs.check.Goals as goal

pub product_good-requires : goal.product_good-requires
product_good-requires c = formed _ (sym c.form_good.ensures ∙ c.if-not-form_good.false)

pub list_length-requires : goal.list_length-requires
list_length-requires c = formed _ (sym c.form_good.ensures ∙ c.if-not-form_good.false)

pub returns-then-not-form_good : goal.returns-then-not-form_good
unfolding mend_number
returns-then-not-form_good c = no _ (sym c.form_good.ensures ∙ c.if-not-form_good.true) refl

pub returns-then-not-product_good : goal.returns-then-not-product_good
unfolding mend_number
returns-then-not-product_good c =
    yes _ (sym c.form_good.ensures ∙ c.if-not-form_good.false) (no _ (sym c.product_good.ensures ∙ c.if-not-product_good.true) refl)

pub returns-then-room-list_length : goal.returns-then-room-list_length
unfolding mend_number
returns-then-room-list_length c =
    let a = c.args in
    let short = lt-leb (length (altered_of a.map.now)) a.room (omega (arith, c.list_length.ensures, c.if-room-list_length.true)) in
    yes _ (sym c.form_good.ensures ∙ c.if-not-form_good.false) (yes _ (sym c.product_good.ensures ∙ c.if-not-product_good.false) (no _ short refl))

pub returns : goal.returns
unfolding mend_number
returns c =
    let a = c.args in
    let enough = le-leb (length (altered_of a.map.now)) a.room (omega (arith, c.list_length.ensures, c.if-room-list_length.false)) in
    yes _ (sym c.form_good.ensures ∙ c.if-not-form_good.false) (yes _ (sym c.product_good.ensures ∙ c.if-not-product_good.false) (yes _ enough refl))
