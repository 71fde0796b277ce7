-- `further_good` meets its contract: its tests are the further ones, in their order.
use mathlib.Core.Bool.{true}
use Rattle.base_chip.specs.declared.Chip.TheVariants.{Newer}
use Rattle.map_test.specs.MapTest.{further_tests}
use Rattle.base_bits.proofs.Cases.{joined_every}
use Rattle.map_test.proofs.FormedMap.further_good.Goals as goal

pub returns : goal.returns
returns c =
    rw (
      c.register_at-3.ensures,
      c.product_good.ensures,
      c.register_at-2.ensures,
      c.register_at.ensures,
    )
    (joined_every true (further_tests Newer c.args.self.bytes.now))
