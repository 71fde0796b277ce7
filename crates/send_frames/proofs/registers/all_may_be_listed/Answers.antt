-- `all_may_be_listed` meets its contract: the rest of the list decides, until an address may not be listed.
use mathlib.Core.Path.{refl, sym, ◌∙◌}
use Rattle.send_frames.proofs.Listed.{forbidden, allowed_on, allowed_all}
use Rattle.send_frames.proofs.registers.all_may_be_listed.Goals as goal

pub loop-address-init : goal.loop-address-init
loop-address-init c = record { rest = refl }

pub returns-then-not-may_be_listed : goal.returns-then-not-may_be_listed
returns-then-not-may_be_listed c =
    forbidden c.loop-address.invariant c.loop-address-test.true (sym c.may_be_listed.ensures ∙ c.if-not-may_be_listed.true)

pub loop-address-preserved : goal.loop-address-preserved
loop-address-preserved c =
    allowed_on c.loop-address.invariant c.loop-address-test.true (sym c.may_be_listed.ensures ∙ c.if-not-may_be_listed.false)

pub returns : goal.returns
returns c = allowed_all c.loop-address.invariant c.loop-address-test.false
