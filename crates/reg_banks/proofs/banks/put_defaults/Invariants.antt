use Rattle.reg_banks.proofs.Filling.{Filling}
use Rattle.reg_banks.proofs.Laws.{defaults_over}
use Rattle.reg_banks.proofs.banks.put_defaults.Given as goal

abbrev pub invariant-loop-i : goal.invariant-loop-i
invariant-loop-i l = Filling (defaults_over l.map) l.initial.bank l.bank l.i
