-- `put_map_line` meets its contract: its word and its number.
use Rattle.text_report.specs.Text.{map_line}
use Rattle.text_report.proofs.put_map_line.Goals as goal

pub returns : goal.returns
unfolding map_line
returns c = c.put_line.ensures
