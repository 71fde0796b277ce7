-- Document 01, "The bench program": numbers as text, in decimal.
use Rattle.std.specs.Prelude.{ℕ, zero, suc, ◌/◌, ◌%◌, cond, List, [], ◌∷◌, ◌++◌, eqb}
use Rattle.text_lines.specs.Text.{digit_of}

-- n in decimal, with k as a bound on its digits: those of n / 10, unless that is 0, and then the digit of n % 10
unfoldable pub decimal_in : ℕ → ℕ → List ℕ
decimal_in zero n = []
decimal_in (suc k) n = cond (eqb (n / 10) 0) [] (decimal_in k (n / 10)) ++ (digit_of (n % 10) ∷ [])

-- a number below 2 ^ 64, which has at most 20 digits
abbrev pub decimal_of : ℕ → List ℕ
decimal_of n = decimal_in 20 n
