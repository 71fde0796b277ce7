-- Document 01, "The bench program": how large the buffers are.
use Rattle.std.specs.Prelude.{ℕ, ◌+◌, ◌-◌}
use Rattle.map_format.specs.Format.{length_size, least_size, most_size}

-- the least and the most that a map's length field says
abbrev pub least_length : ℕ
least_length = least_size - length_size

abbrev pub most_length : ℕ
most_length = most_size - length_size

-- the largest map, and the byte by which a file is seen to be longer than its map
abbrev pub map_space : ℕ
map_space = most_size + 1

-- the samples of a piece
abbrev pub piece : ℕ
piece = 4096

-- the bytes that hold the records of one piece: document 02, Ask 8
abbrev pub record_space : ℕ
record_space = 9562

-- the bytes of the lines that are written at a time
abbrev pub text_space : ℕ
text_space = 5040
