-- `effect_at` meets its contract: beyond the banks a register is blank, and takes nothing; else the effect is that of the register's
-- entry and of its byte in each stage.
use mathlib.Core.Path.{◌≡◌}
use native.Mathlib.Omega.{arith}
use Rattle.map_format.specs.Format.{count_of, register_at}
use Rattle.map_format.proofs.Laws.{entry_beyond}
use Rattle.reg_write.specs.Effect.{effect_of}
use Rattle.reg_write.proofs.effect_at.Goals as goal

pub returns-then-active-at : goal.returns-then-active-at
unfolding effect_of
returns-then-active-at c =
    let blank : (register_at c.args.map.now c.args.address).kind ≡ 0 =
    entry_beyond c.args.map.now (count_of c.args.map.now) c.args.address (omega (arith, c.if-active-at.true, c.requires.active_size)) in
    rw blank
