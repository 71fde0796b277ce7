-- `put_listed` meets its contract: the bytes of an entry that is altered are copied over as many of the list, and none of another.
use mathlib.Core.Path.{◌≡◌, refl, sym, ap, ◌∙◌}
use mathlib.Core.List.{[], ◌++◌}
use Prim.Native.Nat.{◌+◌, ◌/◌, ◌%◌, ◌≤◌}
use native.Mathlib.Omega.{arith}
use native.Mathlib.Nat.{add-zero}
use lib.ListN.{length, get_or}
use Rattle.base_bits.specs.Bytes.{word_bytes}
use Rattle.map_format.proofs.Parts.{put_part}
use Rattle.map_mend.specs.Mend.{entry_bytes, altered_at}
use Rattle.map_mend.proofs.Listed.{listed, not_listed}
use Rattle.map_mend.proofs.put_listed.Goals as goal

pub slice_bounds-copy_from_slice-end : goal.slice_bounds-copy_from_slice-end
slice_bounds-copy_from_slice-end c =
    let bytes : let a = c.args in altered_at a.address a.entry ≡ word_bytes a.address ++ entry_bytes a.entry =
    listed _ _ (sym c.is_altered.ensures ∙ c.if-is_altered.true) in
    let room : let a = c.args in a.at + 5 ≤ length a.list.now =
    omega (arith, c.requires.1, ap length bytes) in
    room

pub returns-then-is_altered : goal.returns-then-is_altered
returns-then-is_altered c =
    let a = c.args in
    let bytes : altered_at a.address a.entry ≡ word_bytes a.address ++ entry_bytes a.entry =
    listed _ _ (sym c.is_altered.ensures ∙ c.if-is_altered.true) in
    let room : a.at + 5 ≤ length a.list.now = omega (arith, c.requires.1, ap length bytes) in
    let high : get_or c.to_be_bytes.result 0 0 ≡ a.address / 256 = rw c.to_be_bytes.ensures (omega (arith, c.requires.0)) in
    let low : get_or c.to_be_bytes.result 1 0 ≡ a.address % 256 = rw c.to_be_bytes.ensures in
    rw bytes (put_part (c.copy_from_slice.ensures.after ∙ rw (high, low)) room refl)

pub returns : goal.returns
returns c =
    let none : let a = c.args in altered_at a.address a.entry ≡ [] =
    not_listed _ _ (sym c.is_altered.ensures ∙ c.if-is_altered.false) in
    rw none (record { next_place = sym (add-zero _); buffer = refl })
