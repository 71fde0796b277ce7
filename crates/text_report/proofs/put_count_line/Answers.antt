-- `put_count_line` meets its contract: two or three words, each with its number, and the byte that ends the line.
use native.Mathlib.Omega.{arith}
use Rattle.text_lines.specs.Text.{bytes_of}
use Rattle.text_report.specs.Numbers.{decimal_of}
use Rattle.text_report.specs.Text.{count_line, older_count_line}
use Rattle.text_report.proofs.Laws.{number_put, put_more, line_ended}
use Rattle.text_report.proofs.put_count_line.Goals as goal
use Rattle.text_report.proofs.put_count_line.Goals.{in-Some, in_default}

pub put_number-requires-2 : goal.put_number-requires-2
put_number-requires-2 c = omega (arith, number_put (bytes_of "records ") c.args.records c.put_number.ensures.put)

pub put_number-requires-in-Some : goal.put_number-requires-in-Some
put_number-requires-in-Some c =
    let a = c.args in
    omega (
      arith,
      number_put (bytes_of "records ") a.records c.put_number.ensures.put,
      number_put (bytes_of " samples ") a.samples c.put_number-2.ensures.put,
    )

pub put-requires : goal.put-requires
put-requires c =
    let a = c.args in
    let records = number_put (bytes_of "records ") a.records c.put_number.ensures.put in
    let samples = number_put (bytes_of " samples ") a.samples c.put_number-2.ensures.put in
    elim c.match-slow.branch [
      | in-Some w ↦ rw w.line-is (omega (arith, records, samples, number_put (bytes_of " slow ") w.in-Some.slow w.put_number-in-Some.ensures.put))
      | in_default w ↦ rw w.line-is (omega (arith, records, samples))
    ]

pub returns : goal.returns
unfolding count_line older_count_line
returns c =
    let a = c.args in
    let records = c.put_number.ensures.put in
    let records_put = number_put (bytes_of "records ") a.records records in
    let samples_put = number_put (bytes_of " samples ") a.samples c.put_number-2.ensures.put in
    let counts = put_more (bytes_of " samples ") (decimal_of a.samples) records c.put_number-2.ensures.put in
    elim c.match-slow.branch [
      | in-Some w ↦
          let slow = w.put_number-in-Some.ensures.put in
          let end = rw w.line-is at c.put.ensures.put in
          rw w.in-Some.is
          (line_ended (omega (arith, end.next_place, records_put, samples_put, number_put (bytes_of " slow ") w.in-Some.slow slow))
          (put_more (bytes_of " slow ") (decimal_of w.in-Some.slow) counts slow) end)
      | in_default w ↦
          let end = rw w.line-is at c.put.ensures.put in
          rw w.in_default.is (line_ended (omega (arith, end.next_place, records_put, samples_put)) counts end)
    ]
