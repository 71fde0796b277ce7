-- `chip_of` meets its contract: by the family.
use mathlib.Core.Path.{ap, sym}
use Rattle.text_recording.specs.declared.Family.{Family}
use Rattle.text_recording.specs.Families.{chip_of}
use borrow.Author.Rules.{rules}
use Rattle.text_recording.proofs.chip_of.Goals as goal

pub last_address-requires : goal.last_address-requires
last_address-requires c = tt

pub returns-in-Newer : goal.returns-in-Newer
unfolding chip_of
returns-in-Newer c = search rules

pub returns-in-Older : goal.returns-in-Older
unfolding chip_of
returns-in-Older c =
    let a = c.args in
    rw c.last_address.ensures (ap (λ (f : Family). chip_of f a.map.now) (sym c.in-Older.is))
