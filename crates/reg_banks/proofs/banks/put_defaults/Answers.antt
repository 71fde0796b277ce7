-- `put_defaults` meets its contract: the loop stores each default, and the rest is the defaults from there on.
use mathlib.Core.Path.{ap, ◌∙◌}
use native.Mathlib.Omega.{arith}
use Rattle.reg_banks.specs.Banks.{defaults_from}
use Rattle.reg_banks.proofs.Filling.{stored, ended}
use Rattle.reg_banks.proofs.Laws.{defaults_rule}
use Rattle.reg_banks.proofs.banks.put_defaults.Goals as goal

pub loop-i-preserved : goal.loop-i-preserved
loop-i-preserved c =
    let inv = c.loop-i.invariant in
    stored (defaults_rule _) inv _ (omega (arith, inv.same, c.requires, c.count-count.ensures, c.loop-i-test.true))
    (rw (c.entry_at.ensures, c.count-count.ensures))

pub returns : goal.returns
returns c =
    let inv = c.loop-i.invariant in
    ended (defaults_rule _) inv (omega (arith, inv.same, c.requires, c.count-count.ensures, c.loop-i-test.false))
    ∙ ap (defaults_from c.args.map.now 0) c.requires
