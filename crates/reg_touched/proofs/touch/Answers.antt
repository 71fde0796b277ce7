-- `touch` meets its contract: the word of the address with one bit more.
use native.Mathlib.Omega.{arith}
use Prim.Native.Nat.{ℕ, ◌*◌, ◌/◌, ◌%◌, ◌^◌}
use mathlib.Core.Path.{◌≡◌, ap, ◌∙◌}
use lib.Bits.{bit_or}
use lib.ListN.{get_or, set}
use lib.Pow.{shl_exact}
use Rattle.reg_touched.specs.Touched.{touched_words}
use Rattle.reg_touched.proofs.touch.Goals as goal

pub returns : goal.returns
unfolding touched_words
returns c =
    let ws = c.args.words.now in
    let a = c.args.address in
    let one : 1 * 2 ^ (a % 64) ≡ 2 ^ (a % 64) = omega arith in
    let bit = shl_exact 1 (a % 64) 64 (omega arith) (omega arith) ∙ one in
    ap (λ (y : ℕ). set ws (a / 64) (bit_or (get_or ws (a / 64) 0) y)) bit
