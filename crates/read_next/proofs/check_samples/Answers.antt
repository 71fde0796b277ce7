-- `check_samples` meets its contract: it is the reader's number, where the room can't be what is refused.
use mathlib.Core.Path.{sym, ◌∙◌}
use Rattle.read_refusals.proofs.Laws.{unsound, map_first, some_refusal}
use Rattle.read_next.proofs.Laws.{room_enough}
use Rattle.read_next.proofs.check_samples.Goals as goal

pub returns-in-Ok : goal.returns-in-Ok
returns-in-Ok c = c.check_read.ensures ∙ room_enough _ _ _ _

pub returns-in-Err : goal.returns-in-Err
returns-in-Err c = unsound _ _ _ _ _ (sym c.sound.ensures ∙ c.if-not-sound.true) ∙ room_enough _ _ _ _

pub returns-in-Err-2 : goal.returns-in-Err-2
returns-in-Err-2 c =
    let sound = sym c.sound.ensures ∙ c.if-not-sound.false in
    map_first _ _ _ _ _ sound _ c.in-Err.ensures (some_refusal _) ∙ room_enough _ _ _ _
