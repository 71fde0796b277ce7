-- `put_lines` meets its contract: the lines that are left, put from the present place on, would make the buffer what it is
-- to be.
use mathlib.Core.Path.{◌≡◌, ap, ◌∙◌}
use Prim.Native.Nat.{ℕ, ◌+◌, ◌-◌, ◌*◌, ◌/◌, min}
use native.Mathlib.Omega.{arith}
use Rattle.std.specs.Ordering.{ord_min, nat_cmp}
use Rattle.std.proofs.lemmas.Grind.{common_steps}
use lib.ListN.{length, drop}
use Rattle.base_bits.proofs.Buffer.{from_on}
use Rattle.base_sizes.specs.Sizes.{record_size}
use Rattle.text_lines.specs.Line.{line_of, line_size}
use Rattle.text_lines.proofs.Laws.{line_length}
use Rattle.text_report.proofs.Laws.{put_part, turned, ended}
use Rattle.text_report.proofs.put_lines.Goals as goal

-- the standard library's word for the smaller of two numbers
smaller : (a b : ℕ) → ord_min nat_cmp a b ≡ min a b
smaller a b = grind (arith, common_steps)

pub loop-n-preserved : goal.loop-n-preserved
loop-n-preserved c =
    let l = c.loop-n in
    let rest = drop (l.n * record_size) c.args.records.now in
    let line = c.line_of-line.ensures ∙ ap line_of (from_on c.args.records.now _) in
    let lines = c.min-lines.ensures ∙ smaller (length c.args.records.now / record_size) (length c.args.out.now / line_size) in
    let part =
    put_part (line_of rest) l.out c.copy_from_slice.new.self (l.n * line_size) ((l.n + 1) * line_size - l.n * line_size)
    (c.copy_from_slice.ensures.after ∙ line) (omega (arith, line_length rest)) (omega (arith, line_length rest, lines, l.invariant.same)) in
    rw part (turned l.invariant c.loop-n-test.true)

pub returns : goal.returns
returns c = ended c.loop-n.invariant c.loop-n-test.false (c.min-lines.ensures ∙ smaller _ _)
