-- `put_samples` meets its contract: the samples of an order are those of its run, and its number of 0 tells what putting them asks.
use mathlib.Core.Path.{◌≡◌, refl, ap, subst}
use mathlib.Core.List.{List}
use Prim.Native.Nat.{ℕ}
use native.Mathlib.Omega.{arith}
use lib.ListN.{length}
use Rattle.base_bits.specs.Buffer.{Put}
use Rattle.base_chip.specs.declared.Chip.TheVariants.{Newer}
use Rattle.send_order.specs.Order.{Order, with_data, sent_bytes}
use Rattle.send_order.specs.Samples.{samples_of}
use Rattle.send_order.proofs.Laws.{admitted}
use Rattle.send_samples.specs.Run.{order_run, whole_samples}
use Rattle.send_samples.proofs.Parts.{order_samples}
use Rattle.send_samples.proofs.samples.put_samples.Goals as goal

-- the samples of its run
same : (o : Order) → whole_samples (order_run Newer o) o.start o.start (sent_bytes o) ≡ samples_of Newer o
same o = order_samples Newer o _ _ refl refl

pub overflow_cast-order : goal.overflow_cast-order
overflow_cast-order c =
    let o = with_data c.args.order c.args.«data».now in
    omega (arith, (admitted Newer o _ c.requires.out_value).start)

pub put_all-requires : goal.put_all-requires
put_all-requires c =
    let o = with_data c.args.order c.args.«data».now in
    let t = admitted Newer o _ c.requires.out_value in
    record {
      settings_bound = (t.settings, omega (arith, t.start), omega (arith, t.start));
      data_len = t.count.data_length;
      data_in_bounds = omega (arith, ap length (same o), t.enough);
    }

pub returns : goal.returns
returns c =
    let o = with_data c.args.order c.args.«data».now in
    let put = c.put_all in
    subst (λ (xs : List ℕ). Put c.args.out.now 0 xs put.result put.new.out) (same o) put.ensures
