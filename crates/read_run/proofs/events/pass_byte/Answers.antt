-- `pass_byte` meets its contract: a byte that is taken has its record, and one that is only counted too.
use mathlib.Core.Path.{refl, sym, ◌∙◌}
use mathlib.Core.Bool.{false≢true}
use Rattle.read_records.proofs.Laws.{place_after}
use Rattle.read_run.proofs.events.pass_byte.Goals as goal

pub take_byte-requires : goal.take_byte-requires
take_byte-requires c =
    let pre = c.requires in
    (pre.0.taking c.if-pass.true, pre.1)

pub returns-then-pass : goal.returns-then-pass
returns-then-pass c =
    let t = c.take_byte.ensures in
    record { next_place = place_after t; taken = λ p. t }

pub returns : goal.returns
returns c = record { next_place = refl; taken = λ p. absurd (false≢true (sym c.if-pass.false ∙ p)) }
