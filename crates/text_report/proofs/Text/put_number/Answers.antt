-- `put_number` meets its contract: the word, and then the fewest digits that hold the number, which are those of its decimal.
use mathlib.Core.Path.{ap, ◌∙◌}
use Prim.Native.Nat.{ℕ, ◌^◌, ◌<◌, ◌≤◌}
use native.Mathlib.Omega.{arith}
use mathlib.Core.List.{List}
use lib.ListN.{length, take}
use lib.Seq.{length-sets}
use Rattle.io.specs.Counts.{IsPrefixLen}
use Rattle.io.specs.Digits.{IsDigitCount}
use Rattle.text_report.proofs.Laws.{at_most_20, decimal_digits}
use Rattle.base_bits.proofs.Putting.{put_both}
use borrow.Author.Rules.{rules}
use Rattle.text_report.proofs.Text.put_number.Goals as goal

-- the digits are at most 20
few : (n k : ℕ) (out : List ℕ) → n < 2 ^ 64 → IsDigitCount 10 1 n k → IsPrefixLen k out → length (take k out) ≤ 20
few n k out below count fits = omega (arith, at_most_20 k n below count, fits.1)

pub put-requires-2 : goal.put-requires-2
put-requires-2 c =
    let d = c.decimal-k in
    let word = c.put.ensures.put in
    omega (
      arith,
      few c.args.n d.result d.new.out (search rules) d.ensures.len d.ensures.in_bounds,
      word.next_place,
      ap length word.buffer ∙ length-sets c.args.self.now.out.now c.args.self.now.at c.args.word.now,
    )

pub returns-clause-put : goal.returns-clause-put
returns-clause-put c =
    let d = c.decimal-k in
    let right = decimal_digits d.result c.args.n (search rules) d.ensures.len in
    put_both c.put.ensures.put (rw (d.ensures.digits ∙ right) at c.put-2.ensures.put)
