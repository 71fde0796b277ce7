-- Document 01, "The bench program": the first and last line of the case that it prints; a refusal; and decimal at both ends of 64 bits.
use mathlib.Core.Path.{◌≡◌, refl}
use Prim.Native.Nat.{◌-◌, ◌^◌}
use Rattle.text_lines.specs.Text.{bytes_of}
use Rattle.text_report.specs.Numbers.{decimal_in, decimal_of}
use Rattle.text_report.specs.Text.{map_line, count_line, older_count_line, refused_line}

pub first_line : map_line 16 ≡ bytes_of "map 16\n"
unfolding map_line decimal_in
first_line = refl

pub last_line : count_line 1 51 0 ≡ bytes_of "records 1 samples 51 slow 0\n"
unfolding count_line decimal_in
last_line = refl

pub older_last_line : older_count_line 1 51 ≡ bytes_of "records 1 samples 51\n"
unfolding older_count_line decimal_in
older_last_line = refl

pub refusal_line : refused_line 5 ≡ bytes_of "refused 5\n"
unfolding refused_line decimal_in
refusal_line = refl

pub decimal_ends : (decimal_of 0 ≡ bytes_of "0") × (decimal_of (2 ^ 64 - 1) ≡ bytes_of "18446744073709551615")
unfolding decimal_in
decimal_ends = (refl, refl)
