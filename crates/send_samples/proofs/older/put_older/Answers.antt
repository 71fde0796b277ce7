-- `put_older` meets its contract: the run is that of a newer chip which ascends with LSB first, with its length over the address.
use mathlib.Core.Path.{◌≡◌, ap, subst}
use mathlib.Core.List.{List}
use Prim.Native.Nat.{ℕ, ◌+◌, ◌*◌}
use native.Mathlib.Omega.{arith}
use Rattle.base_bits.specs.Buffer.{Put}
use Rattle.send_order.specs.Order.{with_data}
use Rattle.send_order.specs.Samples.{length_bits}
use Rattle.send_order.proofs.Laws.{length_bits_few}
use Rattle.send_samples.proofs.Parts.{older_samples_lem, length_older}
use Rattle.send_samples.proofs.older.put_older.Goals as goal

pub overflow_mul-lower : goal.overflow_mul-lower
overflow_mul-lower c = omega (arith, c.length_bits.ensures, length_bits_few c.args.order.count)

pub overflow_add-lower : goal.overflow_add-lower
overflow_add-lower c =
    omega (arith, c.length_bits.ensures, length_bits_few c.args.order.count, c.requires.settings_bound.1)

pub put_all-requires : goal.put_all-requires
put_all-requires c =
    let o = c.args.order in
    let pre = c.requires in
    let few = length_bits_few o.count in
    let lower : c.length_bits.result * 0x2000 + o.start ≡ length_bits o.count * 0x2000 + o.start =
    ap (λ (l : ℕ). l * 0x2000 + o.start) c.length_bits.ensures in
    record {
      settings_bound =
          (omega (arith, pre.settings_bound.0), omega (arith, pre.settings_bound.1), omega (arith, c.length_bits.ensures, few, pre.settings_bound.1));
      data_len = pre.data_len;
      data_in_bounds =
          omega (arith, length_older (with_data o c.args.«data».now) _ pre.settings_bound.0 lower pre.data_len, pre.count_in_bounds);
    }

pub returns : goal.returns
returns c = λ chip older.
    let o = c.args.order in
    let put = c.put_all in
    let lower : c.length_bits.result * 0x2000 + o.start ≡ length_bits o.count * 0x2000 + o.start =
    ap (λ (l : ℕ). l * 0x2000 + o.start) c.length_bits.ensures in
    subst (λ (xs : List ℕ). Put c.args.out.now 0 xs put.result put.new.out)
    (older_samples_lem (with_data o c.args.«data».now) _ c.requires.settings_bound.0 lower chip older) put.ensures
