-- A rule with several conditions is a list of tests, in the paper's order.
use Rattle.std.specs.Prelude.{ℕ, Bool, true, cond, ◌&&◌, List, [], ◌∷◌}

-- each of the tests holds
unfoldable pub every : List Bool → Bool
every [] = true
every (t ∷ ts) = t && every ts

-- the number where the test fails, else what comes next: refusals stand in the order in which they are given
abbrev pub unless : Bool → ℕ → ℕ → ℕ
unless test number next = cond test next number
