-- How long a line is.
use mathlib.Core.Path.{◌≡◌, refl}
use mathlib.Core.List.{List}
use Prim.Native.Nat.{ℕ}
use lib.ListN.{length}
use Rattle.text_lines.specs.Line.{line_size, line_of}

pub line_length : (r : List ℕ) → length (line_of r) ≡ line_size
unfolding line_of
line_length r = refl
