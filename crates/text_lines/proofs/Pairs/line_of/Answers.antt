-- `line_of` meets its contract: byte by byte, the line of the definition.
use Rattle.text_lines.specs.Line.{line_of}
use Rattle.text_lines.proofs.Pairs.line_of.Goals as goal

pub returns : goal.returns
unfolding line_of
returns c =
    rw (
      c.letter.ensures,
      c.digits-high.ensures,
      c.digits-low.ensures,
      c.digits-third.ensures,
      c.digits-fourth.ensures,
      c.digits-fifth.ensures,
      c.digits-moved.ensures,
    )
