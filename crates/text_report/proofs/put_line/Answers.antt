-- `put_line` meets its contract: a word and its number, and the byte that ends the line, from the start of the buffer on.
use native.Mathlib.Omega.{arith}
use Rattle.text_report.proofs.Laws.{number_put, line_ended}
use Rattle.text_report.proofs.put_line.Goals as goal

pub put-requires : goal.put-requires
put-requires c = omega (arith, number_put c.args.word.now c.args.n c.put_number.ensures.put)

pub returns : goal.returns
returns c =
    let number = c.put_number.ensures.put in
    let end = c.put.ensures.put in
    line_ended (omega (arith, number_put c.args.word.now c.args.n number, end.next_place)) number end
