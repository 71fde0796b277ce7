use Rattle.text_report.proofs.Laws.{Listing}
use Rattle.text_report.proofs.put_lines.Given as goal

abbrev pub invariant-loop-n : goal.invariant-loop-n
invariant-loop-n l = Listing l.records l.initial.out l.out l.lines l.n
