-- Document 01, "The bench program": the line of a record.
use Rattle.std.specs.Prelude.{ℕ, ◌/◌, ◌%◌, cond, List, [], ◌∷◌, ◌++◌, get_or, eqb}
use Prim.Native.Char.{code}
use Rattle.text_lines.specs.Text.{bytes_of, digit_of}

-- a byte as two hex digits
abbrev pub hex_of : ℕ → List ℕ
hex_of x = digit_of (x / 16) ∷ digit_of (x % 16) ∷ []

-- the letter of a record: `W` for kind 1, a write; `R` for 2, a read; `C` for 3, a cut
abbrev pub letter_of : ℕ → ℕ
letter_of kind = cond (eqb kind 1) (code "W") (cond (eqb kind 2) (code "R") (code "C"))

-- the bytes of a line
abbrev pub line_size : ℕ
line_size = 18

-- byte i of a record
abbrev pub byte_of : List ℕ → ℕ → ℕ
byte_of r i = get_or r i 0

-- The line of a record: its letter, the address (bytes 1 and 2) as four capital hex digits, byte 3 and byte 4 as two each,
-- byte 5, which no record has above 5, as one digit, and, by document 02, Ask 8, the bits that moved as two, parted by one space.
unfoldable pub line_of : List ℕ → List ℕ
line_of r =
    letter_of (byte_of r 0) ∷ bytes_of " "
    ++ hex_of (byte_of r 1) ++ hex_of (byte_of r 2) ++ bytes_of " "
    ++ hex_of (byte_of r 3) ++ bytes_of " "
    ++ hex_of (byte_of r 4) ++ bytes_of " "
    ++ digit_of (byte_of r 5 % 16) ∷ bytes_of " "
    ++ hex_of (byte_of r 6) ++ bytes_of "\n"
