-- `put_entry` meets its contract: the entry's bytes are copied over as many of the map, from the place where it begins.
use mathlib.Core.Path.{refl, ap, ◌∙◌}
use Prim.Native.Nat.{ℕ, ◌+◌, ◌*◌}
use native.Mathlib.Omega.{arith}
use lib.Seq.{sets}
use Rattle.map_format.proofs.Parts.{put_part}
use Rattle.map_mend.specs.Mend.{entry_bytes}
use Rattle.map_mend.proofs.put_entry.Goals as goal

pub returns : goal.returns
returns c =
    let a = c.args in
    (put_part {old = a.map.now} {xs = entry_bytes a.entry} {at = c.head.result + 3 * a.address} c.copy_from_slice.ensures.after
    (omega (arith, c.head.ensures, c.requires.1)) refl).buffer
    ∙ ap (λ (h : ℕ). sets a.map.now (h + 3 * a.address) (entry_bytes a.entry)) c.head.ensures
