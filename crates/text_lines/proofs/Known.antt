-- Document 02, Ask 8: the record of the case that document 01, "The bench program", prints.
use mathlib.Core.Path.{◌≡◌, refl}
use mathlib.Core.List.{[], ◌∷◌}
use Rattle.text_lines.specs.Text.{bytes_of}
use Rattle.text_lines.specs.Line.{line_of}

pub write_line : line_of (1 ∷ 0x00 ∷ 0x0A ∷ 0x3C ∷ 0x3C ∷ 1 ∷ 0x3C ∷ []) ≡ bytes_of "W 000A 3C 3C 1 3C\n"
unfolding line_of
write_line = refl
