-- `put_refused_line` meets its contract: its word and its number.
use Rattle.text_report.specs.Text.{refused_line}
use Rattle.text_report.proofs.put_refused_line.Goals as goal

pub returns : goal.returns
unfolding refused_line
returns c = rw c.from.ensures at c.put_line.ensures
