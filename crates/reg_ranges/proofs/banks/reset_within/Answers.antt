-- `reset_within` meets its contract: the defaults are put in one range, and then in the other.
use native.Mathlib.Omega.{arith}
use mathlib.Core.Path.{◌≡◌, sym, ◌∙◌}
use lib.ListN.{length}
use lib.Seq.{sets, length-sets}
use Rattle.map_format.specs.Format.{count_of}
use Rattle.reg_banks.specs.Banks.{defaults_from, default_banks}
use Rattle.reg_banks.proofs.Laws.{mapped_defaults}
use Rattle.reg_ranges.proofs.Laws.{lent_back}
use Rattle.reg_ranges.proofs.banks.reset_within.Goals as goal

pub returns : goal.returns
unfolding default_banks
returns c =
    let at = c.args in
    let m = at.map.now in
    let all = defaults_from m 0 (count_of m) in
    let size : length all ≡ at.ranges.n = (mapped_defaults m).active_size ∙ sym c.requires.count in
    rw (
      c.put_defaults.ensures,
      c.put_defaults-2.ensures,
      lent_back all at.memory.now at.ranges.n at.ranges.active size c.requires.active_fits,
    )
    (lent_back all (sets at.memory.now at.ranges.active all) at.ranges.n at.ranges.buffer size
    (omega (arith, length-sets at.memory.now at.ranges.active all, c.requires.buffer_fits)))
