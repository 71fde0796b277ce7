-- `tell` meets its contract: a refusal has no record.
use Rattle.std.specs.Prelude.{Result, Ok, Err}
use mathlib.Core.Path.{refl, ◌∙◌}
use Rattle.host_benchmark.proofs.Laws.{amount_or}
use Rattle.host_benchmark.proofs.tell.Goals as goal

pub returns : goal.returns
returns c = record { number = c.number_of.ensures; count = c.unwrap_or.ensures ∙ amount_or c.args.answer }
