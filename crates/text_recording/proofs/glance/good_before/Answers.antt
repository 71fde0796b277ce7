-- `good_before` meets its contract: as many are good as come before the first that is not.
use mathlib.Core.Path.{ap, ◌∙◌}
use Rattle.std.specs.Prelude.{Option, ℕ, unwrap_or, length}
use Rattle.text_recording.proofs.Looking.{before_bad}
use Rattle.text_recording.proofs.glance.good_before.Goals as goal

pub returns : goal.returns
returns c =
    let xs = c.args.samples.now in
    c.unwrap_or.ensures ∙ ap (λ (o : Option ℕ). unwrap_or o (length xs)) c.first_bad.ensures ∙ before_bad xs
