-- `put` meets its contract: the part that the bytes are copied into is theirs.
use mathlib.Core.Path.{refl}
use native.Mathlib.Omega.{arith}
use Rattle.text_report.proofs.Laws.{put_part}
use Rattle.text_report.proofs.Text.put.Goals as goal

pub returns-clause-put : goal.returns-clause-put
returns-clause-put c = record { next_place = refl; buffer = put_part _ _ _ _ _ c.copy_from_slice.ensures.after (omega arith) c.requires }
