-- `send_older` meets its contract: as `send`; what is left does not depend on the part.
use mathlib.Core.Path.{refl, sym, ◌∙◌}
use native.Mathlib.Omega.{arith}
use lib.ListN.{length}
use Rattle.std.proofs.lemmas.Result.{err_from_is_err_and}
use Rattle.base_chip.specs.declared.Chip.{Chip}
use Rattle.base_chip.specs.declared.Part.TheVariants.{Ad9557}
use Rattle.base_chip.specs.declared.Chip.TheVariants.{Older}
use Rattle.send_order.specs.Order.{order}
use Rattle.send_order.proofs.Laws.{Admitted, admitted, top_low, older_start, length_counted}
use Rattle.send_samples.proofs.Answer.{done, refused, either_part}
use Rattle.send_samples.proofs.older.send_older.Goals as goal

pub returns-in_err-check : goal.returns-in_err-check
returns-in_err-check c = λ part.
    let o = order c.args.direction c.args.settings c.args.start c.args.count c.args.«data».now in
    let p = err_from_is_err_and c.from_residual.result c.from_residual.ensures.1 in
    rw (p.1, p.2) (refused (Older Ad9557 c.args.top) o _ _ c.in_err-check.ensures ∙ either_part Ad9557 part c.args.top o _)

pub put_older-requires : goal.put_older-requires
put_older-requires c =
    let chip : Chip = Older Ad9557 c.args.top in
    let o = order c.args.direction c.args.settings c.args.start c.args.count c.args.«data».now in
    let t : Admitted chip o (length c.args.out.now) = admitted chip o _ (sym c.in_ok-check.ensures) in
    let near = older_start Ad9557 c.args.top o t.count t.addresses in
    record {
      settings_bound = (t.settings, omega (arith, near, top_low Ad9557 c.args.top t.top), t.count.some);
      data_len = t.count.data_length;
      count_in_bounds = omega (arith, length_counted chip o t.count, t.enough);
    }

pub returns : goal.returns
returns c = λ part.
    let chip : Chip = Older Ad9557 c.args.top in
    let o = order c.args.direction c.args.settings c.args.start c.args.count c.args.«data».now in
    done chip o _ _ _ c.in_ok-check.ensures (c.put_older.ensures chip refl) ∙ either_part Ad9557 part c.args.top o _
