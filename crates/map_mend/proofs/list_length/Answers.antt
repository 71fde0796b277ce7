-- `list_length` meets its contract: what is counted so far, with the entries that are left, is the whole list.
use mathlib.Core.Path.{◌≡◌, ap, ◌∙◌}
use Prim.Native.Nat.{ℕ, ◌+◌}
use native.Mathlib.Omega.{arith}
use lib.ListN as list
use Rattle.map_format.specs.declared.Entry.{Entry}
use Rattle.map_format.specs.Format.{entry_at, register_at}
use Rattle.map_mend.specs.Mend.{altered_at, altered_from}
use Rattle.map_mend.proofs.Listed.{ListCounting, again, counted_most, ended}
use Rattle.map_mend.proofs.list_length.Goals as goal

pub overflow_add-length : goal.overflow_add-length
overflow_add-length c =
    let m = c.args.map.now in
    let turn = c.loop-address in
    let entry : c.entry_at.result ≡ register_at m turn.address = c.entry_at.ensures ∙ ap (λ (n : ℕ). entry_at m n turn.address) c.count-n.ensures in
    let size : c.listed_size-length.result ≡ list.length (altered_at turn.address (register_at m turn.address)) =
    c.listed_size-length.ensures ∙ ap (λ (e : Entry). list.length (altered_at turn.address e)) entry in
    let counted : ListCounting m c.count-n.result (turn.length + c.listed_size-length.result) (turn.address + 1) =
    again _ _ _ _ turn.invariant _ size c.loop-address-test.true in
    omega (arith, counted_most _ _ _ _ counted, c.count-n.ensures, c.requires.most)

pub loop-address-preserved : goal.loop-address-preserved
loop-address-preserved c =
    let m = c.args.map.now in
    let turn = c.loop-address in
    let entry : c.entry_at.result ≡ register_at m turn.address = c.entry_at.ensures ∙ ap (λ (n : ℕ). entry_at m n turn.address) c.count-n.ensures in
    let size : c.listed_size-length.result ≡ list.length (altered_at turn.address (register_at m turn.address)) =
    c.listed_size-length.ensures ∙ ap (λ (e : Entry). list.length (altered_at turn.address e)) entry in
    again _ _ _ _ turn.invariant _ size c.loop-address-test.true

pub returns : goal.returns
returns c =
    ended _ _ _ _ c.loop-address.invariant c.loop-address-test.false
    ∙ ap (λ (k : ℕ). list.length (altered_from c.args.map.now 0 k)) c.count-n.ensures
