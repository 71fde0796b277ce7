-- `read_on` meets its contract: a good map leaves the rest to `read_tested`; else only the session is looked at before the map's number.
use mathlib.Core.Path.{sym, ◌∙◌}
use native.Mathlib.Omega.{arith}
use Rattle.read_refusals.proofs.Laws.{unsound, map_first, some_refusal}
use Rattle.read_calls.proofs.Laws.{read_refused}
use Rattle.read_calls.proofs.read_on.Goals as goal

pub returns-in-Err : goal.returns-in-Err
returns-in-Err c = read_refused _ _ _ _ _ _ (unsound _ _ _ _ _ (sym c.sound.ensures ∙ c.if-not-sound.true)) (λ q. omega arith)

pub returns-in-Err-2 : goal.returns-in-Err-2
returns-in-Err-2 c =
    let sound = sym c.sound.ensures ∙ c.if-not-sound.false in
    let z = some_refusal _ in
    read_refused _ _ _ _ _ _ (map_first _ _ _ _ _ sound _ c.in-Err.ensures z) z
